use Rattle.std.proofs.Common.{◌≡◌, ℕ, List, [], ◌++◌, take, Some, None, Option, IfSome}
use Rattle.std.specs.Option.{option_map}
use Rattle.text.proofs.input.read_text.Goals as goal

-- what a limit leaves of the bytes of a reader, where they are known
limited : (o : Option (List ℕ)) (n : ℕ) (ys : List ℕ) → IfSome (option_map (take n) o) (λ xs. ys ≡ [] ++ xs) → IfSome o (λ xs. ys ≡ take n xs)
limited None n ys h = h
limited (Some xs) n ys h = h

pub returns : goal.returns
returns g c =
    let h = rw (c.new-text.ensures.items, c.take-limited.ensures.limit, c.take-limited.ensures.inner) at c.in_ok-read_to_end.ensures.bytes in
    limited (g.R.Read.remaining c.args.from) 60001 _ h
