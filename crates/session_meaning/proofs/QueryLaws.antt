-- What the calls of a query make of the store's machine: nothing. And of which rows it tells.
use Rattle.std.specs.Prelude.{⊤}
use Rattle.std.proofs.Common.{◌≡◌, inl, inr, ℕ, Bool, true, false, List, [], ◌∷◌, ◌++◌, Result, Ok, Err, arith, refl, sym, ◌∙◌, ap, subst}
use Rattle.std.specs.List.Sorted.{IsPermutation}
use Rattle.disk_model.proofs.CallRuns.{raised_rose}
use Rattle.span_types.specs.Faults.{Rose}
use Rattle.span_types.specs.declared.spans.Row.{Row}
use Rattle.block_info.specs.InfoParts.{InfoParts}
use Rattle.query_fanout.proofs.Later.{as_it_was}
use Rattle.query_fanout.specs.Queries.{AreReads, ComesOf, IsAsked, IsGrown, ReadsPages, TellsOf, is_fault, parts_of}
use Rattle.query_fanout.specs.declared.error.QueryError.{QueryError}
use Rattle.query_fanout.specs.declared.error.QueryError.TheVariants as error
use Rattle.store_core.specs.Waiting.{rows_outside}
use Rattle.store_model.specs.After.{after_done}
use Rattle.store_model.specs.Event.{Reply as reply, LookParts}
use Rattle.store_model.specs.Event.Event.{Done, Look, ReadPage}
use Rattle.store_model.specs.Event.Reply.{Fine, Page, Refused}
use Rattle.store_model.specs.Event.Refusal.{Fault, Memory}
use Rattle.store_model.specs.History.{History, count_of, history_rows, up_to}
use Rattle.store_model.specs.State.{block_files, is_among}
use Rattle.store_model.specs.Step.{IsLook, Machine, with_state}
use Rattle.store_state.specs.Given.{info_files}
use Rattle.store_state.specs.Made.{Call, call}
use Rattle.session_meaning.specs.Answering.{CallsLead}
use Rattle.client_run.specs.CoreRuns.{IsCounted}
use Rattle.session_meaning.specs.At.{At, IsStep, IsStill, IsUnchanged, history_of}
use Rattle.session_meaning.proofs.Looks.{look_ended, look_refused, look_taken, still_after}
use Rattle.session_meaning.proofs.Steps.{first_step, one_step, read_still, still_then, still_twice, two}

-- calls in two parts
parted : (before after : At) (front back : List Call) → CallsLead before (front ++ back) after → (mid : At) × CallsLead before front mid × CallsLead mid back after
parted before after [] back lead = (before, (refl, refl), lead)
parted before after (c ∷ front) back lead =
    let rest = parted (record { machine = lead.1; faults = lead.0 }) after front back lead.4 in
    (rest.0, (lead.0, lead.1, lead.2, lead.3, rest.1), rest.2)

no_call : (before after : At) → CallsLead before [] after → IsStill before after
no_call before after lead = (lead.1, (let e = lead.0 in omega (arith, e)), lead.0)

-- ---- page reads

reads_still : (pin : ℕ) (files : List ℕ) (calls : List Call) (before after : At) → AreReads pin files calls → CallsLead before calls after → IsStill before after
reads_still pin files [] before after none lead = no_call before after lead
reads_still pin files (c ∷ calls) before after ((file, page, bytes, among, is), rest) lead =
    let s = first_step before after (ReadPage pin file page) (Page bytes) calls (subst (λ (d : Call). CallsLead before (d ∷ calls) after) is lead) in
    still_twice before s.0 after (read_still before.faults s.0.faults before.machine s.0.machine pin file page (Page bytes) s.1.1, s.1.0, s.1.2) (reads_still pin files calls s.0 after rest s.2)

reads_unchanged : (pin : ℕ) (files : List ℕ) (failed : Bool) (calls : List Call) (before after : At) → ReadsPages pin files failed calls → CallsLead before calls after
    → IsUnchanged failed before after
reads_unchanged pin files false calls before after are lead = reads_still pin files calls before after are lead
reads_unchanged pin files true calls before after (reads, file, page, are, among, is) lead =
    let p = parted before after reads (call (ReadPage pin file page) (Refused Fault) ∷ []) (subst (λ (cs : List Call). CallsLead before cs after) is lead) in
    let step = one_step p.0 after (ReadPage pin file page) (Refused Fault) p.2 in
    still_then true before p.0 after (reads_still pin files reads before p.0 are p.1)
    (read_still p.0.faults after.faults p.0.machine after.machine pin file page (Refused Fault) step.1, step.0, step.2)

-- ---- a query

-- What a query tells or why it can't, in the store's model.
abbrev pub Says : {A : Type 0} → (ℕ → List Row → A → Type 0) → Result A QueryError → At → At → Type 0
Says tells (Ok x) before after =
    (outside more : List Row) × IsPermutation (rows_outside before.machine.state) outside × (before.machine.state.blocks ≡ [] → more ≡ [])
    × tells (count_of (history_of before)) (outside ++ more) x
Says tells (Err error.Fault) before after = Rose before.faults after.faults
Says tells (Err (error.NotBlock file at)) before after = is_among file (block_files before.machine.state.blocks) ≡ true
Says tells (Err error.Memory) before after = ⊤

pub looked_same : (look other : LookParts) → reply.Looked look ≡ reply.Looked other
    → (look.pin ≡ other.pin) × (look.files ≡ other.files) × (look.as_of ≡ other.as_of) × (look.rows ≡ other.rows)
looked_same look other e =
    let same : look ≡ other = cc in
    (ap (λ (l : LookParts). l.pin) same, ap (λ (l : LookParts). l.files) same, ap (λ (l : LookParts). l.as_of) same, ap (λ (l : LookParts). l.rows) same)

no_infos : (infos : List InfoParts) → info_files infos ≡ [] → infos ≡ []
no_infos [] none = refl
no_infos (i ∷ infos) none = let bad : ⊥ = cc in absurd bad

says_memory : {A : Type 0} (tells : ℕ → List Row → A → Type 0) (r : Result A QueryError) (before after : At) → r ≡ Err error.Memory → Says tells r before after
says_memory {A} tells r before after is = subst (λ (x : Result A QueryError). Says tells x before after) (sym is) tt

-- Nothing of the store changed, and the query says so.
pub asked_says : {A : Type 0} (tells : ℕ → List Row → A → Type 0) (r : Result A QueryError) (before after : At) (calls : List Call) → IsAsked tells r calls
    → CallsLead before calls after → IsUnchanged (is_fault r) before after × Says tells r before after
asked_says {A} tells r before after calls (inl (are, is)) lead =
    let step = one_step before after Look (Refused Memory) (subst (λ (cs : List Call). CallsLead before cs after) are lead) in (
      subst (λ (x : Result A QueryError). IsUnchanged (is_fault x) before after) (sym is)
          (look_refused before.faults after.faults before.machine after.machine step.1, step.0, step.2),
      says_memory tells r before after is,
    )
asked_says {A} tells r before after calls (inr (look, reads, are, pages, comes)) lead = (unchanged, said r unchanged.2 comes)
  where
    m : Machine
    m = before.machine

    looked : reply
    looked = reply.Looked (parts_of look)

    back : List Call
    back = call (Done look.pin) Fine ∷ []

    s : (between : At) × IsStep before Look looked between × CallsLead between (reads ++ back) after
    s = first_step before after Look looked (reads ++ back) (subst (λ (cs : List Call). CallsLead before cs after) are lead)

    p : (mid : At) × CallsLead s.0 reads mid × CallsLead mid back after
    p = parted s.0 after reads back s.2

    last : IsStep p.0 (Done look.pin) Fine after
    last = one_step p.0 after (Done look.pin) Fine p.2

    read : IsUnchanged (is_fault r) s.0 p.0
    read = reads_unchanged look.pin (info_files look.blocks) (is_fault r) reads s.0 p.0 pages p.1

    given : IsLook m looked s.0.machine
    given = look_taken before.faults s.0.faults m s.0.machine (parts_of look) s.1.1

    same : (look.pin ≡ given.0) × (info_files look.blocks ≡ block_files m.state.blocks) × (look.as_of ≡ count_of m.history) × (look.rows ≡ given.1)
    same = looked_same (parts_of look) (record { pin = given.0; files = block_files m.state.blocks; as_of = count_of m.history; rows = given.1 }) given.4

    ended : after.machine ≡ with_state (after_done look.pin s.0.machine.state) s.0.machine
    ended = subst (λ (x : Machine). after.machine ≡ with_state (after_done look.pin x.state) x) read.0
        (look_ended p.0.faults after.faults p.0.machine after.machine look.pin last.1)

    perm : IsPermutation (rows_outside m.state) look.rows
    perm = subst (λ (rows : List Row). IsPermutation (rows_outside m.state) rows) (sym same.3) given.3

    unchanged : IsUnchanged (is_fault r) before after
    unchanged = (
      still_after m s.0.machine after.machine look.pin given.0 given.2 same.0 given.5 ended,
      two before.faults s.0.faults after.faults s.1.0 (two s.0.faults p.0.faults after.faults read.1 last.0),
      subst (λ (n : ℕ). IsCounted (is_fault r) before.faults n) (sym last.2) (subst (λ (n : ℕ). IsCounted (is_fault r) n p.0.faults) s.1.2 read.2),
    )

    said : (x : Result A QueryError) → IsCounted (is_fault x) before.faults after.faults → ComesOf (λ more y. tells look.as_of (look.rows ++ more) y) look.blocks x → Says tells x before after
    said (Ok x) counted (more, nothing, tells_so) = (
      look.rows,
      more,
      perm,
      (λ none. nothing (no_infos look.blocks (same.1 ∙ ap block_files none))),
      subst (λ (n : ℕ). tells n (look.rows ++ more) x) same.2 tells_so,
    )
    said (Err error.Fault) raised any = raised_rose before.faults after.faults raised
    said (Err (error.NotBlock file at)) counted among = subst (λ (files : List ℕ). is_among file files ≡ true) same.1 among
    said (Err error.Memory) counted any = tt

-- ---- what is told of the history

-- What is told of a later history as of this one's length is told of this one.
pub told_at : {A : Type 0} (tells : ℕ → List Row → A → Type 0) (as_of : A → ℕ) → ((n : ℕ) (rows : List Row) (x : A) → tells n rows x → as_of x ≡ n)
    → (h later : History) (x : A) → IsGrown h later → as_of x ≡ count_of h → TellsOf tells h later x → tells (count_of h) (history_rows h) x
told_at tells as_of counts h later x grows is (n, low, high, its) =
    let same : n ≡ count_of h = sym (counts n (history_rows (up_to n later)) x its) ∙ is in
    subst (λ (g : History). tells (count_of h) (history_rows g) x) (as_it_was h later n grows same)
    (subst (λ (k : ℕ). tells k (history_rows (up_to n later)) x) same its)

-- What is told of a later history is told of this one, if it is told as of its length.
pub told_exactly : {A : Type 0} (tells : ℕ → List Row → A → Type 0) (as_of : A → ℕ) → ((n : ℕ) (rows : List Row) (x : A) → tells n rows x → as_of x ≡ n)
    → (h later : History) (rows : List Row) (x : A) → IsGrown h later → tells (count_of h) rows x → TellsOf tells h later x → tells (count_of h) (history_rows h) x
told_exactly tells as_of counts h later rows x grows own its = told_at tells as_of counts h later x grows (counts (count_of h) rows x own) its
