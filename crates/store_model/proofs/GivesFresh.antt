-- What a step gives out is new.
use Rattle.std.proofs.Common.{◌≡◌, ℕ, ◌+◌, ◌<◌, ◌≤◌, [], ◌∷◌, None, Some, Bool, true, false, refl, sym, ◌∙◌, ap, subst, arith}
use Rattle.std.specs.List.{Contains}
use Rattle.store_model.specs.State.{State, Flush, Compaction, is_among, flush_files, compaction_files, open_files, pin_numbers, flush_numbers, compaction_numbers, IsFreeNumber}
use Rattle.store_model.specs.Event.{Event, Reply}
use Rattle.store_model.specs.Event.Event.{Push, Cut, CutAll, Held, BeginFlush, BeginCompact, WritePiece, CommitFlush, CommitCompact, DropFlush, DropCompact, Look, ReadPage, Done, Reclaim}
use Rattle.store_model.specs.Step.{Machine, Step, Happens}
use Rattle.store_model.specs.Holds.{Hold, opened, own_files, OpenIn}
use Rattle.store_model.specs.Holds.Hold.{OpenLook, OpenFlush, OpenCompact}
use Rattle.store_model.specs.Sound.{times, jobs_with, StateIsSound}
use Rattle.store_model.specs.Fresh.{IsNewFile, GivesNewFiles, pin_of, job_of, AreApart}
use Rattle.store_model.proofs.Numbers.{times-append, named, not_named, one_number, two_numbers}
use Rattle.store_model.proofs.Outcomes.{kept_by}
use Rattle.store_model.proofs.TellsHistory.IsPlain.{ARefusal, NoWork}
use Rattle.store_model.proofs.TellsHistory.{IsPlain, split, not_in_nil, only_one, plain_opens}

-- ---- the files of open jobs

-- what a step does to the next file and to the files of open jobs
record GoesOn (u u' : State) : Type 0 where
  rises : u.next_file ≤ u'.next_file
  jobs : (f : ℕ) → 1 ≤ times f (open_files u') → times f (open_files u) ≡ 0 → IsNewFile f u u'

-- no job begins
none_begins : (u u' : State) → u'.next_file ≡ u.next_file → ((f : ℕ) → times f (open_files u') ≤ times f (open_files u)) → GoesOn u u'
none_begins u u' same less = record { rises = omega (arith, same); jobs = λ f h none. absurd (omega (arith, h, none, less f)) }

joined : (f : ℕ) (u : State) → times f (open_files u) ≡ times f (flush_files u.flush) + times f (compaction_files u.compaction)
joined f u = times-append f (flush_files u.flush) (compaction_files u.compaction)

no_flush : (u u' : State) → u'.next_file ≡ u.next_file → u'.flush ≡ None → u'.compaction ≡ u.compaction → GoesOn u u'
no_flush u u' same none kept = none_begins u u' same
    (λ f. omega (arith, joined f u, joined f u', ap (λ o. times f (flush_files o)) none, ap (λ o. times f (compaction_files o)) kept))

no_compaction : (u u' : State) → u'.next_file ≡ u.next_file → u'.compaction ≡ None → u'.flush ≡ u.flush → GoesOn u u'
no_compaction u u' same none kept = none_begins u u' same
    (λ f. omega (arith, joined f u, joined f u', ap (λ o. times f (compaction_files o)) none, ap (λ o. times f (flush_files o)) kept))

flush_begins : (u u' : State) (job : Flush) → u'.next_file ≡ u.next_file + 2 → u'.flush ≡ Some job → u'.compaction ≡ u.compaction →
    job.file ≡ u.next_file → job.segment ≡ u.next_file + 1 → GoesOn u u'
flush_begins u u' job next here kept file segment = record {
  rises = omega (arith, next);
  jobs = λ f h none. new f (two_numbers f u.next_file (omega (arith, h, none, joined f u, joined f u', own f, ap (λ o. times f (compaction_files o)) kept)));
}
  where
    own : (f : ℕ) → times f (flush_files u'.flush) ≡ times f (u.next_file ∷ (u.next_file + 1) ∷ [])
    own f = ap (λ o. times f (flush_files o)) here ∙ ap (λ n. times f (n ∷ job.segment ∷ [])) file ∙ ap (λ n. times f (u.next_file ∷ n ∷ [])) segment

    new : (f : ℕ) → (u.next_file ≤ f) × (f < u.next_file + 2) → IsNewFile f u u'
    new f h = record { above = h.0; below = omega (arith, h.1, next) }

compaction_begins : (u u' : State) (job : Compaction) → u'.next_file ≡ u.next_file + 1 → u'.compaction ≡ Some job → u'.flush ≡ u.flush →
    job.file ≡ u.next_file → GoesOn u u'
compaction_begins u u' job next here kept file = record {
  rises = omega (arith, next);
  jobs = λ f h none. new f (one_number f u.next_file (omega (arith, h, none, joined f u, joined f u', own f, ap (λ o. times f (flush_files o)) kept)));
}
  where
    own : (f : ℕ) → times f (compaction_files u'.compaction) ≡ times f (u.next_file ∷ [])
    own f = ap (λ o. times f (compaction_files o)) here ∙ ap (λ n. times f (n ∷ [])) file

    new : (f : ℕ) → f ≡ u.next_file → IsNewFile f u u'
    new f h = record { above = omega (arith, h); below = omega (arith, h, next) }

same_jobs : (u u' : State) → u'.next_file ≡ u.next_file → u'.flush ≡ u.flush → u'.compaction ≡ u.compaction → GoesOn u u'
same_jobs u u' same flush compaction = none_begins u u' same
    (λ f. omega (arith, joined f u, joined f u', ap (λ o. times f (flush_files o)) flush, ap (λ o. times f (compaction_files o)) compaction))

happens_goes : (m m' : Machine) (e : Event) (r : Reply) → Happens m e r m' → GoesOn m.state m'.state
happens_goes m m' (Push spans moment) r d = subst (λ (n : Machine). GoesOn m.state n.state) (sym d.1) (same_jobs m.state _ refl refl refl)
happens_goes m m' (Cut moment) r d = subst (λ (n : Machine). GoesOn m.state n.state) (sym d.3) (same_jobs m.state _ refl refl refl)
happens_goes m m' CutAll r d = subst (λ (n : Machine). GoesOn m.state n.state) (sym d.3) (same_jobs m.state _ refl refl refl)
happens_goes m m' Held r d = subst (λ (n : Machine). GoesOn m.state n.state) (sym d.1) (same_jobs m.state _ refl refl refl)
happens_goes m m' BeginFlush r d = subst (λ (n : Machine). GoesOn m.state n.state) (sym d.1) (flush_begins m.state _ _ refl refl refl refl refl)
happens_goes m m' BeginCompact r d = subst (λ (n : Machine). GoesOn m.state n.state) (sym d.3) (compaction_begins m.state _ _ refl refl refl refl)
happens_goes m m' (WritePiece job file bytes) r d = subst (λ (n : Machine). GoesOn m.state n.state) (sym d.1) (same_jobs m.state _ refl refl refl)
happens_goes m m' (CommitFlush number size) r d = subst (λ (n : Machine). GoesOn m.state n.state) (sym d.6) (no_flush m.state _ refl refl refl)
happens_goes m m' (CommitCompact number size) r d = subst (λ (n : Machine). GoesOn m.state n.state) (sym d.6) (no_compaction m.state _ refl refl refl)
happens_goes m m' (DropFlush number) r d = subst (λ (n : Machine). GoesOn m.state n.state) (sym d.4) (no_flush m.state _ refl refl refl)
happens_goes m m' (DropCompact number) r d = subst (λ (n : Machine). GoesOn m.state n.state) (sym d.4) (no_compaction m.state _ refl refl refl)
happens_goes m m' Look r d = subst (λ (n : Machine). GoesOn m.state n.state) (sym d.5) (same_jobs m.state _ refl refl refl)
happens_goes m m' (ReadPage pin block page) r d = subst (λ (n : Machine). GoesOn m.state n.state) (sym d.2) (same_jobs m.state _ refl refl refl)
happens_goes m m' (Done pin) r d = subst (λ (n : Machine). GoesOn m.state n.state) (sym d.2) (same_jobs m.state _ refl refl refl)
happens_goes m m' Reclaim r d = subst (λ (n : Machine). GoesOn m.state n.state) (sym d.1) (same_jobs m.state _ refl refl refl)

step_goes : (before faults : ℕ) (m m' : Machine) (e : Event) (r : Reply) → Step before faults m e r m' → GoesOn m.state m'.state
step_goes before faults m m' e r step = kept_by (λ (n : Machine). GoesOn m.state n.state) before faults m m' e r
    (same_jobs m.state _ refl refl refl) (same_jobs m.state _ refl refl refl) (λ gone free. same_jobs m.state _ refl refl refl)
    (λ none d. happens_goes m m' e r d) step

-- ---- the file of a reply

no_own : (r r' : Reply) (f : ℕ) (G : Type 0) → r ≡ r' → own_files r' ≡ [] → is_among f (own_files r) ≡ true → G
no_own r r' f G e none h = let both : false ≡ true = sym (ap (λ q. is_among f (own_files q)) e ∙ ap (is_among f) none) ∙ h in cc

plain_own : (r : Reply) (f : ℕ) (G : Type 0) → IsPlain r → is_among f (own_files r) ≡ true → G
plain_own r f G (ARefusal why) h = cc
plain_own r f G NoWork h = cc

new_own : (u u' : State) (r : Reply) (f : ℕ) → own_files r ≡ u.next_file ∷ [] → u.next_file < u'.next_file → is_among f (own_files r) ≡ true → IsNewFile f u u'
new_own u u' r f own rises h =
    let one = one_number f u.next_file (named f (u.next_file ∷ []) (sym (ap (is_among f) own) ∙ h)) in
    record { above = omega (arith, one); below = omega (arith, one, rises) }

happens_own : (m m' : Machine) (e : Event) (r : Reply) (f : ℕ) → Happens m e r m' → is_among f (own_files r) ≡ true → IsNewFile f m.state m'.state
happens_own m m' (Push spans moment) r f d h = no_own r _ f (IsNewFile f m.state m'.state) d.0 refl h
happens_own m m' (Cut moment) r f d h = no_own r _ f (IsNewFile f m.state m'.state) d.2 refl h
happens_own m m' CutAll r f d h = no_own r _ f (IsNewFile f m.state m'.state) d.2 refl h
happens_own m m' Held r f d h = no_own r _ f (IsNewFile f m.state m'.state) d.0 refl h
happens_own m m' BeginFlush r f d h =
    new_own m.state m'.state r f (ap own_files d.0) (let next = ap (λ (n : Machine). n.state.next_file) d.1 in omega (arith, next)) h
happens_own m m' BeginCompact r f d h =
    new_own m.state m'.state r f (ap own_files d.2) (let next = ap (λ (n : Machine). n.state.next_file) d.3 in omega (arith, next)) h
happens_own m m' (WritePiece job file bytes) r f d h = no_own r _ f (IsNewFile f m.state m'.state) d.0 refl h
happens_own m m' (CommitFlush number size) r f d h = no_own r _ f (IsNewFile f m.state m'.state) d.5 refl h
happens_own m m' (CommitCompact number size) r f d h = no_own r _ f (IsNewFile f m.state m'.state) d.5 refl h
happens_own m m' (DropFlush number) r f d h = no_own r _ f (IsNewFile f m.state m'.state) d.3 refl h
happens_own m m' (DropCompact number) r f d h = no_own r _ f (IsNewFile f m.state m'.state) d.3 refl h
happens_own m m' Look r f d h = no_own r _ f (IsNewFile f m.state m'.state) d.4 refl h
happens_own m m' (ReadPage pin block page) r f d h = no_own r _ f (IsNewFile f m.state m'.state) d.1 refl h
happens_own m m' (Done pin) r f d h = no_own r _ f (IsNewFile f m.state m'.state) d.1 refl h
happens_own m m' Reclaim r f d h = no_own r _ f (IsNewFile f m.state m'.state) d.0 refl h

pub gives_new : (before faults : ℕ) (m m' : Machine) (e : Event) (r : Reply) → Step before faults m e r m' → GivesNewFiles m.state r m'.state
gives_new before faults m m' e r step = record {
  rises = on.rises;
  own = λ f h. split before faults m m' e r (IsNewFile f m.state m'.state) step (λ plain _. plain_own r f (IsNewFile f m.state m'.state) plain h)
      (λ d. happens_own m m' e r f d h);
  jobs = λ f h none. on.jobs f (named f (open_files m'.state) h) (not_named f (open_files m.state) none);
}
  where
    on : GoesOn m.state m'.state
    on = step_goes before faults m m' e r step

-- ---- pins and jobs

none_among : (n : ℕ) (G : Type 0) → is_among n [] ≡ true → G
none_among n G h = cc

only_among : (n x : ℕ) → is_among n (x ∷ []) ≡ true → n ≡ x
only_among n x h = one_number n x (named n (x ∷ []) h)

-- the pin and the job of what is open are open
pin_is_open : (m : Machine) (hold : Hold) (n : ℕ) → OpenIn m hold → is_among n (pin_of hold) ≡ true → is_among n (pin_numbers m.state.pins) ≡ true
pin_is_open m (OpenLook look) n is h = ap (λ k. is_among k (pin_numbers m.state.pins)) (only_among n look.pin h) ∙ is.open_pin.is_open
pin_is_open m (OpenFlush job) n is h = none_among n _ h
pin_is_open m (OpenCompact job) n is h = ap (λ k. is_among k (pin_numbers m.state.pins)) (only_among n job.pin h) ∙ is.open_pin

job_is_open : (m : Machine) (hold : Hold) (n : ℕ) → OpenIn m hold → is_among n (job_of hold) ≡ true → 1 ≤ jobs_with n m.state
job_is_open m (OpenLook look) n is h = none_among n _ h
job_is_open m (OpenFlush job) n is h =
    let own : times n (flush_numbers m.state.flush) ≡ times n (job.number ∷ []) =
    ap (λ o. times n (flush_numbers o)) is.is_open ∙ ap (λ k. times n (k ∷ [])) is.its_number in
    omega (arith, own, named n (job.number ∷ []) h)
job_is_open m (OpenCompact job) n is h =
    let own : times n (compaction_numbers m.state.compaction) ≡ times n (job.number ∷ []) =
    ap (λ o. times n (compaction_numbers o)) is.is_open ∙ ap (λ k. times n (k ∷ [])) is.its_number in
    omega (arith, own, named n (job.number ∷ []) h)

refuted : (t : Bool) → (t ≡ true → ⊥) → t ≡ false
refuted true h = absurd (h refl)
refuted false h = refl

free_pin : (m : Machine) (pin n : ℕ) (old : Hold) → IsFreeNumber pin m.state.pins → OpenIn m old → is_among n (pin ∷ []) ≡ true → is_among n (pin_of old) ≡ false
free_pin m pin n old free is h = refuted (is_among n (pin_of old))
    (λ t. let both : true ≡ false = sym (pin_is_open m old n is t) ∙ ap (λ k. is_among k (pin_numbers m.state.pins)) (only_among n pin h) ∙ free.is_free in cc)

new_job : (m : Machine) (n : ℕ) (old : Hold) → StateIsSound m.state → OpenIn m old → is_among n ((m.state.begun + 1) ∷ []) ≡ true → is_among n (job_of old) ≡ false
new_job m n old sound is h = refuted (is_among n (job_of old))
    (λ t. let at = only_among n (m.state.begun + 1) h in omega (arith, job_is_open m old n is t, sound.numbers.new n (omega (arith, at))))

opens_none : (r r' : Reply) (hold : Hold) (G : Type 0) → r ≡ r' → opened r' ≡ [] → Contains (opened r) hold → G
opens_none r r' hold G e none h = not_in_nil hold G (subst (λ hs. Contains hs hold) (ap opened e ∙ none) h)

opens_this : (r r' : Reply) (own new old : Hold) → r ≡ r' → opened r' ≡ own ∷ [] → AreApart own old → Contains (opened r) new → AreApart new old
opens_this r r' own new old e one apart h =
    subst (λ x. AreApart x old) (only_one new own (subst (λ hs. Contains hs new) (ap opened e ∙ one) h)) apart

happens_apart : (m m' : Machine) (e : Event) (r : Reply) (new old : Hold) → StateIsSound m.state → OpenIn m old → Happens m e r m' → Contains (opened r) new → AreApart new old
happens_apart m m' (Push spans moment) r new old sound is d h = opens_none r _ new (AreApart new old) d.0 refl h
happens_apart m m' (Cut moment) r new old sound is d h = opens_none r _ new (AreApart new old) d.2 refl h
happens_apart m m' CutAll r new old sound is d h = opens_none r _ new (AreApart new old) d.2 refl h
happens_apart m m' Held r new old sound is d h = opens_none r _ new (AreApart new old) d.0 refl h
happens_apart m m' BeginFlush r new old sound is d h =
    opens_this r _ (OpenFlush (record { number = m.state.begun + 1; file = m.state.next_file; rows = _ })) new old d.0 refl
    (record { pins = λ n t. none_among n _ t; jobs = λ n t. new_job m n old sound is t }) h
happens_apart m m' BeginCompact r new old sound is d h =
    opens_this r _ (OpenCompact (record { number = m.state.begun + 1; file = m.state.next_file; level = _; pin = d.0; files = _ })) new old d.2 refl
    (record { pins = λ n t. free_pin m d.0 n old d.1 is t; jobs = λ n t. new_job m n old sound is t }) h
happens_apart m m' (WritePiece job file bytes) r new old sound is d h = opens_none r _ new (AreApart new old) d.0 refl h
happens_apart m m' (CommitFlush number size) r new old sound is d h = opens_none r _ new (AreApart new old) d.5 refl h
happens_apart m m' (CommitCompact number size) r new old sound is d h = opens_none r _ new (AreApart new old) d.5 refl h
happens_apart m m' (DropFlush number) r new old sound is d h = opens_none r _ new (AreApart new old) d.3 refl h
happens_apart m m' (DropCompact number) r new old sound is d h = opens_none r _ new (AreApart new old) d.3 refl h
happens_apart m m' Look r new old sound is d h =
    opens_this r _ (OpenLook (record { pin = d.0; files = _; as_of = _; rows = _ })) new old d.4 refl
    (record { pins = λ n t. free_pin m d.0 n old d.2 is t; jobs = λ n t. none_among n _ t }) h
happens_apart m m' (ReadPage pin block page) r new old sound is d h = opens_none r _ new (AreApart new old) d.1 refl h
happens_apart m m' (Done pin) r new old sound is d h = opens_none r _ new (AreApart new old) d.1 refl h
happens_apart m m' Reclaim r new old sound is d h = opens_none r _ new (AreApart new old) d.0 refl h

pub opens_apart : (before faults : ℕ) (m m' : Machine) (e : Event) (r : Reply) (new old : Hold) → StateIsSound m.state →
    Step before faults m e r m' → Contains (opened r) new → OpenIn m old → AreApart new old
opens_apart before faults m m' e r new old sound step h is =
    split before faults m m' e r (AreApart new old) step (λ plain _. plain_opens r new (AreApart new old) plain h)
    (λ d. happens_apart m m' e r new old sound is d h)
