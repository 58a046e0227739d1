-- What the eight places of a cache hold.
use Rattle.std.specs.Prelude.{◌≡◌, ℕ, ◌<◌, Bool, true, false, cond, not, ◌&&◌, ◌||◌, List, [], ◌∷◌, length, Some, None, count_by, Option, ◌==◌, nat_lt, slice_index_or, slice_set}
use Rattle.model.specs.declared.entry.Entry.{Entry}
use Rattle.cache.specs.declared.place.Place.{Place}

-- one place

abbrev pub holds : Place → ℕ → Bool
holds Place.Empty c = false
holds (Place.Clean d w) c = d == c
holds (Place.Dirty d w) c = d == c

abbrev pub is_taken : Place → Bool
is_taken Place.Empty = false
is_taken (Place.Clean d w) = true
is_taken (Place.Dirty d w) = true

abbrev pub entry_of : Place → Entry
entry_of Place.Empty = Entry.Invalid
entry_of (Place.Clean d w) = Entry.Clean w
entry_of (Place.Dirty d w) = Entry.Dirty w

abbrev pub place_for : ℕ → Entry → Place
place_for c Entry.Invalid = Place.Empty
place_for c (Entry.Clean w) = Place.Clean c w
place_for c (Entry.Dirty w) = Place.Dirty c w

-- the places of a cache

-- the entry of cell c
abbrev pub entry_in : List Place → ℕ → Entry
entry_in [] c = Entry.Invalid
entry_in (p ∷ ps) c = cond (holds p c) (entry_of p) (entry_in ps c)

-- whether cell c stands in some place
abbrev pub stands_in : List Place → ℕ → Bool
stands_in [] c = false
stands_in (p ∷ ps) c = holds p c || stands_in ps c

-- how many places are taken
abbrev pub taken_in : List Place → ℕ
taken_in ps = count_by is_taken ps

-- the place of cell c replaced; nothing changes where it stands in none
abbrev pub replace_in : List Place → ℕ → Place → List Place
replace_in [] c p = []
replace_in (q ∷ qs) c p = cond (holds q c) (p ∷ qs) (q ∷ replace_in qs c p)

-- place i is there and empty
abbrev pub vacant : List Place → ℕ → Bool
vacant ps i = nat_lt i (length ps) && not (is_taken (slice_index_or ps i Place.Empty))

-- the entry of cell c stored: in the cell's own place, or else in the empty place i; none where i is not empty
abbrev pub store_in : ℕ → List Place → ℕ → Entry → Option (List Place)
store_in i ps c e = cond (stands_in ps c) (Some (replace_in ps c (place_for c e))) (cond (vacant ps i) (Some (slice_set ps i (place_for c e))) None)

-- no cell stands in two places
abbrev pub clash : Place → Place → Bool
clash Place.Empty q = false
clash (Place.Clean c w) q = holds q c
clash (Place.Dirty c w) q = holds q c

abbrev pub Distinct : List Place → Type 0
Distinct ps = (i j : ℕ) → clash (slice_index_or ps i Place.Empty) (slice_index_or ps j Place.Empty) ≡ true → i ≡ j

-- what a look for cell c may answer: a place where it stands, whichever is found first; none where it stands nowhere
abbrev pub Found : List Place → ℕ → Option ℕ → Type 0
Found ps c None = stands_in ps c ≡ false
Found ps c (Some i) = (i < length ps) × (holds (slice_index_or ps i Place.Empty) c ≡ true)

-- what a look for an empty place may answer
abbrev pub Vacant : List Place → Option ℕ → Type 0
Vacant ps None = taken_in ps ≡ length ps
Vacant ps (Some i) = vacant ps i ≡ true

-- what storing may answer: the places with the entry stored, in any place that was empty if it is new; none where the
-- cell stands nowhere and every place is taken
abbrev pub Stored : List Place → ℕ → Entry → Option (List Place) → Type 0
Stored ps c e None = (stands_in ps c ≡ false) × (taken_in ps ≡ length ps)
Stored ps c e (Some qs) = (i : ℕ) × (store_in i ps c e ≡ Some qs)

-- where an entry of cell c may be stored: where the cell stands, or else in an empty place
abbrev pub OfferedAt : List Place → ℕ → ℕ → Type 0
OfferedAt ps c i = (i < length ps) × (cond (stands_in ps c) (holds (slice_index_or ps i Place.Empty) c) (vacant ps i) ≡ true)

abbrev pub Offered : List Place → ℕ → Option ℕ → Type 0
Offered ps c None = (stands_in ps c ≡ false) × (taken_in ps ≡ length ps)
Offered ps c (Some i) = OfferedAt ps c i
