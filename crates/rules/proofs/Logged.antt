-- Lists of calls as logs of single steps: what a log led to, and what every state on the way keeps of the opening.
use Rattle.std.proofs.Common.{◌≡◌, List, [], ◌∷◌, ◌++◌, length, take, Ok, Err, Result, sym, refl, ◌∙◌, subst}
use Rattle.model.specs.declared.answer.Answer.{Answer}
use Rattle.model.specs.declared.refusal.Refusal.{Refusal}
use Rattle.model.specs.declared.step.Step.{Step}
use Rattle.state.specs.Chains.{Chain, end, link}
use Rattle.state.specs.Laws.{SameSizes}
use Rattle.state.specs.Runs.{Ran}
use Rattle.state.specs.Sound.{Sound}
use Rattle.state.specs.States.{State}
use Rattle.state.specs.Steps.{Takes}
use Rattle.state.proofs.Kept.{sound-kept, sizes-kept}
use Rattle.rules.specs.Calls.{Call, Since, opening, step, run, ran_onto, log_of}
use Rattle.rules.specs.Logs.{Logged, onto}

-- from o the steps of the log, each answered so, led to s
pub data Reach (o : State) : List Logged → State → Type 0 where
  nothing : Reach o [] o
  one : {log : List Logged} {s t : State} {x : Logged} → Reach o log s → Takes s x.step x.answer t → Reach o (x ∷ log) t

-- ── calls are steps ──

reach-chain : {o s t : State} {log : List Logged} {xs : List Step} {answers : List Answer} → Reach o log s → Chain s xs answers t → Reach o (onto log xs answers) t
reach-chain reached end = reached
reach-chain reached (link takes chain) = reach-chain (one reached takes) chain

-- answers past the last step count for nothing
onto-taken : (log : List Logged) (xs : List Step) (answers : List Answer) → onto log xs (take (length xs) answers) ≡ onto log xs answers
onto-taken log [] answers = refl
onto-taken log (x ∷ xs) [] = refl
onto-taken log (x ∷ xs) (a ∷ answers) = onto-taken (record { step = x; answer = a } ∷ log) xs answers

reach-run : {o s t : State} {log : List Logged} (xs : List Step) (before : List Answer) (r : Result (Unit {0}) Refusal) (after : List Answer) → Reach o log s → Ran s xs before r after t → Reach o (ran_onto r log xs after) t
reach-run {o} {t = t} {log = log} xs before (Ok u) after reached ran = subst (λ l. Reach o l t) (onto-taken log xs after) (reach-chain reached ran.chain)
reach-run {o} {log = log} xs before (Err r) after reached ran = subst (Reach o log) (sym ran.state) reached

pub reach : {o s : State} {calls : List Call} → Since o calls s → Reach o (log_of calls) s
reach opening = nothing
reach (step since takes) = one (reach since) takes
reach (run {xs = xs} {before = before} {r = r} {after = after} since ran) = reach-run xs before r after (reach since) ran

-- ── on the way ──

-- the bench stays sound, and has the sizes that it was opened with
pub sound-reached : {o s : State} {log : List Logged} → Sound o → Reach o log s → Sound s
sound-reached sound nothing = sound
sound-reached sound (one {s = s} {t = t} {x = x} reached takes) = sound-kept s t x.step x.answer takes (sound-reached sound reached)

pub same-sizes : {o s : State} {log : List Logged} → Reach o log s → SameSizes o s
same-sizes nothing = record { refusal = refl; boards = refl; entries = refl; long = refl; cells = refl }
same-sizes (one {s = s} {t = t} {x = x} reached takes) =
    let step = sizes-kept s t x.step x.answer takes in
    let so_far = same-sizes reached in
    record {
      refusal = step.refusal ∙ so_far.refusal;
      boards = step.boards ∙ so_far.boards;
      entries = step.entries ∙ so_far.entries;
      long = step.long ∙ so_far.long;
      cells = step.cells ∙ so_far.cells;
    }

-- somewhere on the way the step x, after what is older
pub record Taken (o : State) (older : List Logged) (x : Logged) : Type 0 where
  pub before : State
  pub after : State
  pub reached : Reach o older before
  pub takes : Takes before x.step x.answer after

pub taken : {o s : State} (later older : List Logged) (x : Logged) → Reach o (later ++ x ∷ older) s → Taken o older x
taken [] older x (one {s = s} {t = t} reached takes) = record { before = s; after = t; reached = reached; takes = takes }
taken (y ∷ later) older x (one reached takes) = taken later older x reached
