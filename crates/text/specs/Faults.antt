-- The layer of a fault goes by its refusal's number: text for 4 and 6, header for 3, else judge.
use Rattle.std.specs.Prelude.{ℕ, cond, ◌||◌, Ok, Err, Result, ◌==◌}
use Rattle.model.specs.Refusals.{number_of}
use Rattle.model.specs.declared.refusal.Refusal.{Refusal}
use Rattle.text.specs.declared.fault.Fault.{Fault}
use Rattle.text.specs.declared.fault.Layer.{Layer}
use Rattle.text.specs.declared.fault.Layer.TheVariants.{Text, Header, Judge}

abbrev pub layer_of : ℕ → Layer
layer_of n = cond (n == 3) Header (cond (n == 4 || n == 6) Text Judge)

abbrev pub fault_at : Refusal → ℕ → Fault
fault_at r n = record { refusal = r; line = n; layer = layer_of (number_of r) }

abbrev pub at_line : {X : Type 0} → Result X Refusal → ℕ → Result X Fault
at_line (Ok x) n = Ok x
at_line (Err r) n = Err (fault_at r n)
