-- The worked cases: the answers of each list of steps, computed over all choices.
use Rattle.std.proofs.Common.{◌≡◌, ℕ, [], ◌∷◌, length, sym, refl, ap, subst, arith}
use Rattle.std.specs.List.{AllByRecursion}
use Rattle.model.specs.declared.carry.Carry.{Carry}
use Rattle.carries.specs.Lines.{line, Proper}
use Rattle.state.specs.Cases.{idle, small, BenchCases}
use Rattle.state.specs.Sound.{Sound}
use Rattle.state.proofs.Enumerated.{surely}
use Rattle.state.proofs.Opened.{sound-opened, quiet-lines}

none-wait : (b : ℕ) → line idle b ≡ []
none-wait = quiet-lines idle refl

proper-idle : (n : ℕ) → Proper n idle
proper-idle n =
    record {
      eight = refl;
      own = λ b. subst (AllByRecursion (λ (x : Carry). _)) (sym (none-wait b)) tt;
      short = λ b. omega (arith, ap length (none-wait b));
    }

sound-small : (n : ℕ) → Sound (small n)
sound-small n = sound-opened 2 1 (0 ∷ []) idle n (proper-idle n)

pub bench-cases : BenchCases
bench-cases =
    record {
      numbers = refl;
      read_before_landing = surely (small 8) _ _ 64 (sound-small 8) refl;
      release = surely (small 8) _ _ 16 (sound-small 8) refl;
      acquire = surely (small 8) _ _ 1 (sound-small 8) refl;
      ninth_write_back = surely (small 8) _ _ 8 (sound-small 8) refl;
      fifth_write_back = surely (small 4) _ _ 8 (sound-small 4) refl;
      cells_64 = refl;
      cells_65 = refl;
      cells_0 = refl;
    }
