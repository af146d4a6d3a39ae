-- How a run of events goes on.
use Rattle.std.proofs.Common.{◌≡◌, inl, inr, ℕ, ◌+◌, ◌<◌, ◌≤◌, List, [], ◌∷◌, ◌++◌, take, get_or, length, refl, sym, ◌∙◌, ap, subst}
use Rattle.std.specs.Prelude.{IsTrue}
use Rattle.std.specs.List.{AllByRecursion}
use Rattle.std.proofs.lemmas.List.{take_all, take_more}
use Rattle.store_model.specs.Holds.{Hold}
use Rattle.store_state.specs.Meaning.{Meaning}
use Rattle.client_run.specs.declared.event.Event.{Event}
use Rattle.client_run.specs.declared.event.EventReply.{EventReply}
use Rattle.client_run.specs.declared.tasks.Tasks.{Tasks}
use Rattle.client_run.specs.Calls.{Looks, after_calls}
use Rattle.client_run.specs.EventRuns.{FoundBlock, HasRun, HasRunFirst, IsEventAnswered, no_step}
use Rattle.client_run.specs.Taken.{AreOpen, HasAnswered, HasCome, IsReady, MayHaveAnswered, no_steps, stages_of}
use Rattle.client_run.proofs.CallLemmas.{after-append, answered-push, holds_kept, made-append, tells_kept}
use Rattle.client_run.proofs.LookLemmas.{open_after}

pub run_begins : {P : Type 0} (meaning : Meaning P) (port : P) → ((held : List Hold) × meaning.holds port held) → HasCome meaning port [] [] port [] no_steps
run_begins meaning port holds = record {
  calls = [];
  made = refl;
  answered = (refl, refl, refl);
  left = refl;
  ready = record { holds = holds; open_looks = tt; fit = (holds, holds); going = (tt, tt) };
  found = ((tt, tt), λ tells. tt);
}

-- What is open after an event.
pub ready_then : {P : Type 0} (meaning : Meaning P) (old new : P) (looks later : Looks) (tasks after : Tasks) (e : Event) (r : EventReply)
    → IsReady meaning old looks tasks → HasAnswered meaning old looks tasks e r new later after → IsReady meaning new later after
ready_then meaning old new looks later tasks after e r ready one = record {
  holds = holds_kept meaning old new one.calls one.made ready.holds;
  open_looks = subst (λ (l : Looks). AreOpen meaning new l) (sym one.left) (open_after meaning old new one.calls looks one.made ready.holds ready.open_looks);
  fit = one.fit;
  going = one.going;
}

-- one reply more that finds no block to be none
found_more : (replies : List EventReply) (r : EventReply) → AllByRecursion FoundBlock replies → FoundBlock r → AllByRecursion FoundBlock (replies ++ r ∷ [])
found_more [] r all one = (one, tt)
found_more (x ∷ xs) r all one = (all.0, found_more xs r all.1 one)

pub run_goes_on : {P : Type 0} (meaning : Meaning P) (old mid new : P) (events : List Event) (replies : List EventReply) (looks later : Looks) (tasks after : Tasks) (e : Event) (r : EventReply)
    → HasCome meaning old events replies mid looks tasks → HasAnswered meaning mid looks tasks e r new later after
    → HasCome meaning old (events ++ e ∷ []) (replies ++ r ∷ []) new later after
run_goes_on meaning old mid new events replies looks later tasks after e r come one = record {
  calls = come.calls ++ one.calls;
  made = made-append meaning old mid new come.calls one.calls come.made one.made;
  answered = answered-push [] no_step (stages_of tasks) (stages_of after) events replies e r come.calls one.calls come.answered
      (subst (λ (l : Looks). IsEventAnswered l (stages_of tasks) e r one.calls (stages_of after)) come.left one.answered);
  left = one.left ∙ (ap (after_calls one.calls) come.left ∙ sym (after-append come.calls one.calls []));
  ready = ready_then meaning mid new looks later tasks after e r come.ready one;
  found =
      let before = come.found in
      let behind = one.found before.0 in
      let still = tells_kept meaning mid new one.calls one.made ∙ tells_kept meaning old mid come.calls come.made in
      (behind.0, λ tells. found_more replies r (before.1 tells) (behind.1 (subst IsTrue (sym still) tells)));
}

pub has_run : {P : Type 0} (meaning : Meaning P) (old new : P) (events : List Event) (replies : List EventReply) (looks : Looks) (tasks : Tasks)
    → HasCome meaning old events replies new looks tasks → HasRun meaning old events replies new
has_run meaning old new events replies looks tasks come =
    record { calls = come.calls; made = come.made; stages = stages_of tasks; answered = come.answered; found = come.found.1 }

-- A run that stops at an event.
pub stopped_at : {P : Type 0} (meaning : Meaning P) (old mid new : P) (events : List Event) (n : ℕ) (replies : List EventReply) (looks : Looks) (tasks : Tasks) (e : Event)
    → HasCome meaning old (take n events) replies mid looks tasks → take (n + 1) events ≡ take n events ++ e ∷ [] → MayHaveAnswered meaning mid looks tasks e new
    → HasRunFirst meaning old events new
stopped_at {P} meaning old mid new events n replies looks tasks e come more (inl same) =
    (n, replies, subst (λ (x : P). HasRun meaning old (take n events) replies x) (sym same) (has_run meaning old mid (take n events) replies looks tasks come))
stopped_at meaning old mid new events n replies looks tasks e come more (inr one) = (
  n + 1,
  replies ++ one.0 ∷ [],
  subst (λ (es : List Event). HasRun meaning old es (replies ++ one.0 ∷ []) new) (sym more)
      (has_run meaning old new (take n events ++ e ∷ []) (replies ++ one.0 ∷ []) one.1 one.2
      (run_goes_on meaning old mid new (take n events) replies looks one.1 tasks one.2 e one.0 come one.3)),
)

one_more : (all : List Event) (n : ℕ) (e : Event) → n < length all → e ≡ get_or all n e → take (n + 1) all ≡ take n all ++ e ∷ []
one_more all n e less is = take_more all n e less ∙ ap (λ (x : Event). take n all ++ x ∷ []) (sym is)

pub run_step : {P : Type 0} (meaning : Meaning P) (old mid new : P) (all : List Event) (n : ℕ) (e : Event) (replies more : List EventReply) (r : EventReply) (looks later : Looks) (tasks after : Tasks)
    → HasCome meaning old (take n all) replies mid looks tasks → HasAnswered meaning mid looks tasks e r new later after → n < length all → e ≡ get_or all n e → more ≡ replies ++ r ∷ []
    → HasCome meaning old (take (n + 1) all) more new later after
run_step meaning old mid new all n e replies more r looks later tasks after come one less is grown =
    subst (λ (es : List Event). HasCome meaning old es more new later after) (sym (one_more all n e less is))
    (subst (λ (rs : List EventReply). HasCome meaning old (take n all ++ e ∷ []) rs new later after) (sym grown)
    (run_goes_on meaning old mid new (take n all) replies looks later tasks after e r come one))

pub run_stops : {P : Type 0} (meaning : Meaning P) (old mid new : P) (all given : List Event) (n : ℕ) (e : Event) (replies : List EventReply) (looks : Looks) (tasks : Tasks)
    → HasCome meaning old (take n all) replies mid looks tasks → MayHaveAnswered meaning mid looks tasks e new → n < length all → e ≡ get_or all n e → all ≡ given
    → HasRunFirst meaning old given new
run_stops meaning old mid new all given n e replies looks tasks come may less is same =
    subst (λ (es : List Event). HasRunFirst meaning old es new) same (stopped_at meaning old mid new all n replies looks tasks e come (one_more all n e less is) may)

-- A run that comes to its end.
pub run_ends : {P : Type 0} (meaning : Meaning P) (old new : P) (all given : List Event) (n : ℕ) (replies told : List EventReply) (looks : Looks) (tasks : Tasks)
    → HasCome meaning old (take n all) replies new looks tasks → length all ≤ n → all ≡ given → told ≡ replies → HasRun meaning old given told new
run_ends meaning old new all given n replies told looks tasks come high same is =
    subst (λ (es : List Event). HasRun meaning old es told new) (take_all n all high ∙ same)
    (subst (λ (rs : List EventReply). HasRun meaning old (take n all) rs new) (sym is) (has_run meaning old new (take n all) replies looks tasks come))
