-- Numbers, and what stands between them, at the front of a list of bytes: each is read together with what follows it.
use Rattle.std.specs.Prelude.{ℕ, ◌+◌, ◌-◌, ◌*◌, cond, List, [], ◌∷◌, Some, None, Option, ◌==◌, nat_le}
use Rattle.std.specs.Borrow.{Bor}
use Rattle.std.specs.Char.{is_ascii_digit}

abbrev pub and_then : {X Y : Type 0} → Option X → (X → Option Y) → Option Y
and_then None f = None
and_then (Some x) f = f x

-- a value with a lent part of the bytes, by what that part holds
abbrev pub parted : {X : Type 0} → Option (X × Bor (List ℕ)) → Option (X × List ℕ)
parted None = None
parted (Some p) = Some (p.0, p.1.now)

abbrev pub first_byte : List ℕ → Option (ℕ × List ℕ)
first_byte [] = None
first_byte (c ∷ cs) = Some (c, cs)

-- further digits after those that gave n; None where the number passes the largest word
abbrev pub digits : ℕ → List ℕ → Option (ℕ × List ℕ)
digits n [] = Some (n, [])
digits n (c ∷ cs) =
    cond (is_ascii_digit c) (cond (nat_le (n * 10 + (c - 48)) 4294967295) (digits (n * 10 + (c - 48)) cs) None) (Some (n, c ∷ cs))

-- a number whose first byte is c: a lone 0, or digits of which the first is not 0
abbrev pub number_from : ℕ → List ℕ → Option (ℕ × List ℕ)
number_from c cs = cond (is_ascii_digit c) (cond (c == 48) (Some (0, cs)) (digits (c - 48) cs)) None

abbrev pub number : List ℕ → Option (ℕ × List ℕ)
number s = and_then (first_byte s) (λ p. number_from p.0 p.1)

-- what follows a dot
abbrev pub dot : List ℕ → Option (List ℕ)
dot s = and_then (first_byte s) (λ p. cond (p.0 == 46) (Some p.1) None)

-- a value and nothing after it
abbrev pub alone : {X : Type 0} → Option (X × List ℕ) → Option X
alone None = None
alone (Some (x, [])) = Some x
alone (Some (x, (c ∷ cs))) = None

abbrev pub whole : List ℕ → Option ℕ
whole s = alone (number s)

-- board.cell
abbrev pub place : List ℕ → Option ((ℕ × ℕ) × List ℕ)
place s = and_then (number s) (λ p. and_then (dot p.1) (λ r. and_then (number r) (λ q. Some ((p.0, q.0), q.1))))

abbrev pub place_alone : List ℕ → Option (ℕ × ℕ)
place_alone s = alone (place s)

-- board.cell.word
abbrev pub place_word : List ℕ → Option ((ℕ × ℕ) × ℕ)
place_word s = and_then (place s) (λ p. and_then (dot p.1) (λ r. and_then (whole r) (λ w. Some (p.0, w))))
