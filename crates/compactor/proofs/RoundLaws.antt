-- How a round goes on, step by step.
use Rattle.std.proofs.Common.{◌≡◌, ◌-◌, ◌<◌, ◌≤◌, arith, List, [], ◌∷◌, ◌++◌, refl, sym, ◌∙◌, subst, append-nil, append_assoc}
use Rattle.std.specs.Prelude.{IsTrue}
use Rattle.store_state.specs.Made.{AreMade, Call}
use Rattle.store_state.specs.Meaning.{Meaning, Called}
use Rattle.store_state.specs.declared.rounds.Round.{Round}
use Rattle.store_state.specs.declared.rounds.Step.TheVariants.{More}
use Rattle.compactor.specs.Rounds.{FoundBlocks, IsCompactRound, Leads}
use Rattle.compactor.specs.Rounds.{Stage as stage}
use Rattle.compactor.specs.Rounds.Leads.{over}
use Rattle.compactor.specs.Tasks.{Answers, FindsBlocks, Fits, OneEvent, Steps, Task, stage_of, steps_left}
use Rattle.compactor.specs.Tasks.Task.{Fresh, Reading, Writing, Failing, Ended}
use Rattle.compactor.specs.Phases.{IsUnderWay}

made_more : {P : Type 0} (meaning : Meaning P) (old mid new : P) (calls : List Call) (c : Call) → AreMade meaning old calls mid → Called meaning mid c.event c.reply new
    → AreMade meaning old (calls ++ c ∷ []) new
made_more {P} meaning old mid new [] c h called = (new, subst (λ (x : P). Called meaning x c.event c.reply new) h called, refl)
made_more meaning old mid new (x ∷ xs) c h called = (h.0, h.1, made_more meaning h.0 mid new xs c h.2 called)

by_event : {P : Type 0} (meaning : Meaning P) (start mid new : P) (task after : Task) → IsUnderWay meaning start task mid → OneEvent meaning task mid after new → Fits meaning after new
    → (FindsBlocks meaning task mid → FindsBlocks meaning after new) → IsUnderWay meaning start after new
by_event meaning start mid new task after under one fits found = record {
  fits = fits;
  found = found under.found;
  telling = one.called.telling ∙ under.telling;
  calls = under.calls ++ one.made ∷ [];
  made = made_more meaning start mid new under.calls one.made under.made one.called;
  leads = λ more round h. subst (λ (all : List Call). Leads stage.Fresh all round) (sym (append_assoc under.calls (one.made ∷ []) more))
      (under.leads (one.made ∷ more) round (one.leads more round h));
}

pub by_step : {P : Type 0} (meaning : Meaning P) (start mid new : P) (task after : Task) → IsUnderWay meaning start task mid → Steps meaning task mid after new → Fits meaning after new
    → (FindsBlocks meaning task mid → FindsBlocks meaning after new) → IsUnderWay meaning start after new
by_step meaning start mid new Fresh after under one fits found = by_event meaning start mid new Fresh after under one fits found
by_step meaning start mid new (Reading job parts pages bytes) after under one fits found = by_event meaning start mid new (Reading job parts pages bytes) after under one fits found
by_step meaning start mid new (Writing job bytes info) after under one fits found = by_event meaning start mid new (Writing job bytes info) after under one fits found
by_step meaning start mid new (Failing job why) after under one fits found = by_event meaning start mid new (Failing job why) after under one fits found
by_step {P} meaning start mid new (Ended round) after under one fits found =
    subst (λ (t : Task). IsUnderWay meaning start t new) (sym one.0) (subst (λ (p : P). IsUnderWay meaning start (Ended round) p) (sym one.1) under)

pub nothing_made : {P : Type 0} (meaning : Meaning P) (port : P) → Fits meaning Fresh port → IsUnderWay meaning port Fresh port
nothing_made meaning port fits = record { fits = fits; found = tt; telling = refl; calls = []; made = refl; leads = λ more round h. h }

pub all_made : {P : Type 0} (meaning : Meaning P) (start new : P) (task : Task) (round : Round) → IsUnderWay meaning start task new → task ≡ Ended round
    → (calls : List Call) × AreMade meaning start calls new × IsCompactRound calls round
all_made meaning start new task round under ended = (
  under.calls,
  under.made,
  subst (λ (all : List Call). Leads stage.Fresh all round) (append-nil under.calls) (under.leads [] round (subst (λ (t : Task). Leads (stage_of t) [] round) (sym ended) (over round))),
)

-- where bytes are told no block was found to be none
pub none_found : {P : Type 0} (meaning : Meaning P) (start new : P) (task : Task) (round : Round) → IsUnderWay meaning start task new → task ≡ Ended round → IsTrue (meaning.tells start) → FoundBlocks round
none_found meaning start new task round under ended tells =
    (subst (λ (t : Task). FindsBlocks meaning t new) ended under.found) (subst IsTrue (sym under.telling) tells)

-- a step after which the round goes on leaves fewer
pub leaves_fewer : {P : Type 0} (meaning : Meaning P) (old new : P) (task after : Task) → Steps meaning task old after new → Answers More after → steps_left after ≤ steps_left task - 1
    → steps_left after < steps_left task
leaves_fewer meaning old new Fresh after one answers left = omega (arith, left)
leaves_fewer meaning old new (Reading job parts pages bytes) after one answers left = omega (arith, left)
leaves_fewer meaning old new (Writing job bytes info) after one answers left = omega (arith, left)
leaves_fewer meaning old new (Failing job why) after one answers left = omega (arith, left)
leaves_fewer meaning old new (Ended round) after one answers left = absurd (subst (λ (t : Task). Answers More t) one.0 answers)
