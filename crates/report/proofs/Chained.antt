-- Every list of steps has the plain answers on a bench over a first-come path.
use Rattle.std.proofs.Common.{◌≡◌, ℕ, Bool, true, false, cond, ◌&&◌, ltb, List, [], ◌∷◌, refl, subst, arith}
use Rattle.model.specs.declared.answer.Answer.{Answer}
use Rattle.model.specs.declared.carry.Carry.{Carry}
use Rattle.model.specs.declared.entry.Entry.{Entry}
use Rattle.model.specs.declared.refusal.Refusal.{Refusal}
use Rattle.model.specs.declared.step.Step.{Step}
use Rattle.carries.specs.Tables.{lines_of, located}
use Rattle.carries.proofs.ByBoard.{landed, lane_of}
use Rattle.state.specs.Cells.{project}
use Rattle.state.specs.Chains.{Chain, end, link}
use Rattle.state.specs.Runs.{none, sent_from, sent_of, traffic_of}
use Rattle.state.specs.Sound.{Sound}
use Rattle.state.specs.States.{State, cells_of}
use Rattle.state.specs.Steps.{refuse, land, Takes}
use Rattle.state.specs.Steps as bench
use Rattle.state.proofs.Answered.{at_place, at_lane, answered}
use Rattle.state.proofs.Kept.{sound-kept}
use Rattle.report.specs.Plain.{Plain, step, answers}
use Rattle.report.proofs.Likes.{Like, idle-quiet}
use Rattle.report.proofs.Simulated.{Waits, agreed}

-- what a step answers and leaves of the bench and of the carries that wait
pub record Taken (s : State) (xs : List Carry) (call : Step) : Type 0 where
  pub answer : Answer
  pub after : State
  pub waiting : List Carry
  pub takes : Takes s call answer after
  pub carries : Waits xs (traffic_of s call answer) waiting

-- a carry that is sent, if one is
sending : (xs : List Carry) (q : Bool) (b c : ℕ) (e : Entry) → (ys : List Carry) × Waits xs (cond q (sent_from b c e) none) ys
sending xs false b c e = (xs, refl)
sending xs true b c Entry.Invalid = (xs, refl)
sending xs true b c (Entry.Clean w) = (xs, refl)
sending xs true b c (Entry.Dirty w) = (_, refl)

-- of a landing the first carry that waits is chosen
land-taken : (s : State) (xs : List Carry) → s.lines ≡ lines_of xs → located xs ≡ true → Taken s xs Step.Land
land-taken s xs lines places = by (ltb 0 s.boards) refl xs lines places
  where
    by : (q : Bool) → ltb 0 s.boards ≡ q → (xs : List Carry) → s.lines ≡ lines_of xs → located xs ≡ true → Taken s xs Step.Land
    by false h xs lines places =
        record {
          answer = Answer.Refused Refusal.NoSuchBoard;
          after = s;
          waiting = xs;
          takes = (at_place 0, rw h);
          carries = refl;
        }
    by true h [] lines places =
        record {
          answer = Answer.NothingWaits;
          after = s;
          waiting = [];
          takes = (
            at_lane 0 0,
            rw (h, lines, lane_of [] 0 0 (omega arith), idle-quiet),
          );
          carries = (refl, refl);
        }
    by true h (x ∷ xs) lines places =
        record {
          answer = Answer.Landed x;
          after = bench.landed s x;
          waiting = xs;
          takes = (
            at_lane x.board x.cell,
            rw (h, lines, (landed (x ∷ xs) 0 x (omega arith) refl refl places).0),
          );
          carries = (refl, refl);
        }

module _ (s : State) (xs : List Carry) (sound : Sound s) where
  -- a step that asks the path for nothing, and one that sends the word of an entry
  quiet-taken : (call : Step) → ((a : Answer) → Waits xs (traffic_of s call a) xs) → Taken s xs call
  quiet-taken call waits = let r = answered s call sound in record { answer = r.0; after = r.1; waiting = xs; takes = r.2; carries = waits r.0 }

  sent-taken : (call : Step) (b c : ℕ) → ((a : Answer) (ys : List Carry) → Waits xs (sent_of s b c) ys → Waits xs (traffic_of s call a) ys) → Taken s xs call
  sent-taken call b c same =
      let r = answered s call sound in
      let sent = sending xs (ltb b s.boards && ltb c (cells_of s)) b c ((project c s).entry b) in
      record { answer = r.0; after = r.1; waiting = sent.0; takes = r.2; carries = same r.0 sent.0 sent.1 }

  -- every step
  taken : (call : Step) → s.lines ≡ lines_of xs → located xs ≡ true → Taken s xs call
  taken (Step.Read b c) lines places = quiet-taken (Step.Read b c) (λ _. refl)
  taken (Step.Write b c w) lines places = quiet-taken (Step.Write b c w) (λ _. refl)
  taken (Step.Acquire b c) lines places = quiet-taken (Step.Acquire b c) (λ _. refl)
  taken (Step.Release b c) lines places = quiet-taken (Step.Release b c) (λ _. refl)
  taken (Step.WriteBack b c) lines places = sent-taken (Step.WriteBack b c) b c (λ _ _ h. h)
  taken (Step.Eject b c) lines places = sent-taken (Step.Eject b c) b c (λ _ _ h. h)
  taken Step.Land lines places = land-taken s xs lines places

-- so has every list of steps
pub chained : (s : State) (p : Plain) (calls : List Step) → Sound s → Like s p → (t : State) × Chain s calls (answers p calls) t
chained s p [] sound like = (s, end)
chained s p (call ∷ calls) sound like =
    let one = taken s p.waiting sound call like.lines like.located in
    let is = agreed s p sound like one.after call one.answer one.waiting one.takes one.carries in
    let rest = chained one.after (step p call).1 calls (sound-kept s one.after call one.answer one.takes sound) is.like in
    (rest.0, link (subst (λ a. Takes s call a one.after) is.answer one.takes) rest.1)
