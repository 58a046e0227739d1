-- Laws of `image_of`.
use Rattle.std.proofs.Common.{◌≡◌, ℕ, zero, suc, ◌+◌, ◌*◌, ◌/◌, ◌<◌, min, List, [], map, length, get_or, take, drop, w32, sym, refl, ap, ◌∙◌, arith}
use Rattle.std.specs.Int.{from_be_bytes}
use Rattle.std.specs.Simd.{first_chunks}
use Rattle.std.proofs.lemmas.List.{length-take, length-map, get_or-take, get_or-drop, get_or-map, ext_get_or, drop-drop}
use Rattle.std.proofs.lemmas.List.FromFn.{length-map-range_with_len, get_or-map-range_with_len}
use Rattle.home.specs.FrozenImage.{word_from, image_of}

pub image-length : (bs : List ℕ) → length (image_of bs) ≡ min 65536 (length bs / 4)
unfolding image_of
image-length bs = length-map-range_with_len (λ c. word_from bs (4 * c)) 0 (min 65536 (length bs / 4))

pub image-at : (bs : List ℕ) (c : ℕ) → c < min 65536 (length bs / 4) → get_or (image_of bs) c 0 ≡ word_from bs (4 * c)
unfolding image_of
image-at bs c h = get_or-map-range_with_len (λ c. word_from bs (4 * c)) 0 (min 65536 (length bs / 4)) c c 0 h (omega arith)

-- four bytes in a row
from-bytes : (bs : List ℕ) (i : ℕ) → from_be_bytes w32 (take 4 (drop i bs)) ≡ word_from bs i
from-bytes bs i =
    let at : (k : ℕ) → k < 4 → get_or (take 4 (drop i bs)) k 0 ≡ get_or bs (i + k) 0 = λ k h. get_or-take 4 (drop i bs) k 0 h ∙ get_or-drop i bs k 0 in
    let start : i + 0 ≡ i = omega arith in
    let zero = at 0 (omega arith) ∙ ap (λ n. get_or bs n 0) start in
    omega (arith, zero, at 1 (omega arith), at 2 (omega arith), at 3 (omega arith))

-- chunk c has the bytes from 4 * c on
length-chunks : (k : ℕ) (bs : List ℕ) → length (first_chunks 4 k bs) ≡ k
length-chunks zero bs = refl
length-chunks (suc k) bs = ap suc (length-chunks k (drop 4 bs))

chunk-at : (k c : ℕ) (bs : List ℕ) → c < k → get_or (first_chunks 4 k bs) c [] ≡ take 4 (drop (4 * c) bs)
chunk-at zero c bs h = absurd (omega arith)
chunk-at (suc k) zero bs h = refl
chunk-at (suc k) (suc c) bs h =
    let more : 4 + 4 * c ≡ 4 * suc c = omega arith in
    chunk-at k c (drop 4 bs) (omega arith) ∙ ap (take 4) (drop-drop (4 * c) 4 bs ∙ ap (λ n. drop n bs) more)

pub image-chunks : (bs : List ℕ) → map (from_be_bytes w32) (take 65536 (first_chunks 4 (length bs / 4) bs)) ≡ image_of bs
image-chunks bs =
    let chunks = first_chunks 4 (length bs / 4) bs in
    let many = length-chunks (length bs / 4) bs in
    let long = length-map (take 65536 chunks) (from_be_bytes w32) ∙ length-take 65536 chunks in
    ext_get_or 0 (map (from_be_bytes w32) (take 65536 chunks)) (image_of bs)
    (long ∙ ap (min 65536) many ∙ sym (image-length bs))
    (λ k h.
    get_or-map (from_be_bytes w32) (take 65536 chunks) k [] 0 (omega (arith, length-map (take 65536 chunks) (from_be_bytes w32)))
    ∙ ap (from_be_bytes w32) (get_or-take 65536 chunks k [] (omega (arith, long)) ∙ chunk-at (length bs / 4) k bs (omega (arith, long, many)))
    ∙ from-bytes bs (4 * k)
    ∙ sym (image-at bs k (omega (arith, long, many))))

pub ruleset image_laws = (image-chunks)
