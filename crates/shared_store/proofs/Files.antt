-- The files of a seat's own looks and jobs: what the seat shows of them is what the port does.
use Rattle.std.proofs.Common.{◌≡◌, ◌≢◌, ℕ, ◌==◌, List, [], ◌∷◌, ◌++◌, true, false, refl, sym, ◌∙◌, ap, subst, arith, length, Some, Result, Ok, Err, Option, None}
use Rattle.std.specs.Prelude.{IsTrue, IfOk, IfSome, ◌||◌}
use Rattle.std.specs.List.{Contains, flat_map}
use Rattle.atomic_table.specs.Seated.{TableId}
use Rattle.block_info.specs.InfoParts.{InfoParts}
use Rattle.store_model.specs.Event.{Event, Reply}
use Rattle.store_model.specs.Event.Event.{WritePiece, BeginCompact}
use Rattle.store_model.specs.Holds.{Hold, files_of}
use Rattle.store_model.specs.Holds.Hold.{OpenLook, OpenFlush, OpenCompact}
use Rattle.store_model.specs.State.{is_among}
use Rattle.store_state.specs.Meaning.{View, Meaning, IsOpen}
use Rattle.store_state.specs.Given.{IsJobOf, IsPinOf, flush_of, compact_of, compact_parts, info_files}
use Rattle.store_state.specs.Given.IsJobOf.{OfFlush, OfCompact}
use Rattle.store_state.specs.Given.IsPinOf.{OfLook, OfJob}
use Rattle.store_state.specs.Replies.{begin_compact_reply, write_reply}
use Rattle.store_state.specs.Shown.{AreBlocks, JoinsChoice}
use Rattle.store_state.specs.Written.{HasWritten, IsBlockOf, IsJoinedBlock}
use Rattle.store_state.specs.declared.errors.BeginError.{BeginError}
use Rattle.store_state.specs.declared.errors.WriteError.{WriteError}
use Rattle.store_state.specs.declared.errors.WriteError.TheVariants as write
use Rattle.store_state.specs.declared.jobs.JobFile.{JobFile}
use Rattle.store_state.specs.declared.jobs.Pin.{Pin}
use Rattle.store_state.specs.declared.jobs.FlushJob.{FlushJob}
use Rattle.store_state.specs.declared.jobs.CompactJob.{CompactJob}
use Rattle.port_history.specs.Entries.{Entry}
use Rattle.shared_store.specs.Seen.{bytes_in, fails, some_fails}
use Rattle.shared_store.specs.Apart.{written_by}
use Rattle.shared_store.specs.Rule.{IsFound}
use Rattle.shared_store.specs.Seats.{Stand, calls_of, told_by, SeatKnows, seat_meaning}
use Rattle.shared_store.specs.declared.known.Known.{Known}
use Rattle.shared_store.proofs.Appends.{first_among, later_among}
use Rattle.shared_store.proofs.Calls.{Went, blocks_in, kept_shows, known_now, opened_now, rows_in, shows_now, stand, stays_now, told_now}

-- ---- what is open, by a pin or a job's file

pub written_is_its : (hold : Hold) (file : ℕ) → is_among file (written_by hold) ≡ true → is_among file (files_of hold) ≡ true
written_is_its (OpenLook look) file h = cc
written_is_its (OpenFlush job) file h = h
written_is_its (OpenCompact job) file h = elim (job.file == file) as (λ t. (t || false) ≡ true → (t || is_among file job.files) ≡ true) [
  | true ↦ λ g. refl
  | false ↦ λ g. cc
] h

pub job_hold : (out : JobFile) (P : Hold → Type 0) → IsJobOf out P → (hold : Hold) × P hold × (is_among out.file (written_by hold) ≡ true)
job_hold out P (OfFlush job number file h) = (OpenFlush job, h, subst (λ (f : ℕ). is_among f (job.file ∷ []) ≡ true) file (first_among job.file []))
job_hold out P (OfCompact job number file h) = (OpenCompact job, h, subst (λ (f : ℕ). is_among f (job.file ∷ []) ≡ true) file (first_among job.file []))

pub job_open : (out : JobFile) (P R : Hold → Type 0) → ((hold : Hold) → P hold → R hold) → IsJobOf out P → IsJobOf out R
job_open out P R f (OfFlush job number file h) = OfFlush job number file (f (OpenFlush job) h)
job_open out P R f (OfCompact job number file h) = OfCompact job number file (f (OpenCompact job) h)

pub pin_hold : (pin : Pin) (block : ℕ) (P : Hold → Type 0) → IsPinOf pin block P → (hold : Hold) × P hold × (is_among block (files_of hold) ≡ true)
pin_hold pin block P (OfLook look number files h among) = (OpenLook look, h, subst (λ (fs : List ℕ). is_among block fs ≡ true) (sym files) among)
pin_hold pin block P (OfJob job number files h among) =
    (OpenCompact job, h, later_among block job.file job.files (subst (λ (fs : List ℕ). is_among block fs ≡ true) (sym files) among))

pub pin_open : (pin : Pin) (block : ℕ) (P R : Hold → Type 0) → ((hold : Hold) → P hold → R hold) → IsPinOf pin block P → IsPinOf pin block R
pin_open pin block P R f (OfLook look number files h among) = OfLook look number files (f (OpenLook look) h) among
pin_open pin block P R f (OfJob job number files h among) = OfJob job number files (f (OpenCompact job) h) among

-- ---- before a call

module _ {C : Type 0} (m : Meaning C) (key before : C) (self : Stand C) (table : TableId) (v : Known C) (view : self ≡ stand table v) (start : v.start ≡ Some key)
    (found : IsFound m key v before) where
  pub its : (hold : Hold) → IsOpen (seat_meaning m) self hold → Contains v.seen.holds hold
  its hold o = subst (λ (hs : List Hold). Contains hs hold) (o.1 ∙ ap (λ (s : Stand C). s.known.seen.holds) view) o.2

  pub its_open : (hold : Hold) → IsOpen (seat_meaning m) self hold → IsOpen m before hold
  its_open hold o = found.are_open hold (its hold o)

  telling : m.tells before ≡ told_by m self.known.start
  telling = found.telling ∙ ap (told_by m) (sym start) ∙ ap (λ (s : Stand C). told_by m s.known.start) (sym view)

  pub told : IsTrue (m.tells before) → IsTrue (told_by m self.known.start)
  told h = subst IsTrue telling h

  pub told_back : IsTrue (told_by m self.known.start) → IsTrue (m.tells before)
  told_back h = subst IsTrue (sym telling) h

  pub writing : m.writes before → some_fails (calls_of self.known) ≡ false
  writing w = ap (λ (s : Stand C). some_fails (calls_of s.known)) view ∙ found.unbroken w

  pub same_bytes : IsTrue (m.tells before) → (hold : Hold) → IsOpen (seat_meaning m) self hold → (file : ℕ) → is_among file (files_of hold) ≡ true
      → bytes_in self.known.seen.kept file ≡ m.shows before file
  same_bytes h hold o file g = ap (λ (s : Stand C). bytes_in s.known.seen.kept file) view
      ∙ kept_shows (m.shows before) v.seen.kept v.seen.holds hold file (found.kept (subst IsTrue found.telling h)) (its hold o) g

  pub file_then : IsTrue (m.tells before) → (out : JobFile) → IsJobOf out (IsOpen (seat_meaning m) self) → bytes_in self.known.seen.kept out.file ≡ m.shows before out.file
  file_then t out of = let h = job_hold out (IsOpen (seat_meaning m) self) of in same_bytes t h.0 h.1 out.file (written_is_its h.0 out.file h.2)

  pub whole_then : (out : JobFile) → IsJobOf out (IsOpen (seat_meaning m) self)
      → (IsTrue (told_by m self.known.start) → some_fails (calls_of self.known) ≡ false → HasWritten (bytes_in self.known.seen.kept) out)
      → IsTrue (m.tells before) → m.writes before → HasWritten (m.shows before) out
  whole_then out of whole t w = whole (told t) (writing w) ∙ ap length (file_then t out of)

  pub block_then : (job : FlushJob) (info : InfoParts) → IsOpen (seat_meaning m) self (flush_of job)
      → (IsTrue (told_by m self.known.start) → IsBlockOf (bytes_in self.known.seen.kept job.out.file) info job.rows)
      → IsTrue (m.tells before) → IsBlockOf (m.shows before job.out.file) info job.rows
  block_then job info o h t =
      subst (λ (bytes : List ℕ). IsBlockOf bytes info job.rows) (same_bytes t (flush_of job) o job.out.file (first_among job.out.file [])) (h (told t))

  pub joined_then : (job : CompactJob) (info : InfoParts) → IsOpen (seat_meaning m) self (compact_of job)
      → (IsTrue (told_by m self.known.start) → IsJoinedBlock (bytes_in self.known.seen.kept) (bytes_in self.known.seen.kept job.out.file) info job.pin.blocks)
      → IsTrue (m.tells before) → IsJoinedBlock (m.shows before) (m.shows before job.out.file) info job.pin.blocks
  joined_then job info o h t = λ parts rows.
      subst (λ (bytes : List ℕ). IsBlockOf bytes info (flat_map (λ rs. rs) parts))
      (same_bytes t (compact_of job) o job.out.file (first_among job.out.file (info_files job.pin.blocks)))
      (h (told t) parts (rows_in (m.shows before) (bytes_in self.known.seen.kept) (info_files job.pin.blocks) parts
      (λ file g. same_bytes t (compact_of job) o file (later_among file job.out.file (info_files job.pin.blocks) g)) rows))

-- ---- after a call

last_fails : (es : List Entry) (e : Entry) → fails e.event e.reply ≡ true → some_fails (es ++ e ∷ []) ≡ true
last_fails [] e h = rw h refl
last_fails (x ∷ es) e h = elim (fails x.event x.reply) as (λ t. (t || some_fails (es ++ e ∷ [])) ≡ true) [
  | true ↦ refl
  | false ↦ last_fails es e h
]

module _ {C : Type 0} (m : Meaning C) (e : Event) (r : Reply) (before core : C) (v v' w : Known C) (went : Went m e r before core v v' w) where
  pub broke : fails e r ≡ true → some_fails (calls_of w) ≡ false → ⊥
  broke h none =
      let its : fails went.appended.entry.event went.appended.entry.reply ≡ true
      = (λ i. fails (went.appended.its_event i) (went.appended.its_reply i)) ∙ h in
      let some : some_fails (calls_of w) ≡ true = ap some_fails went.appended.mine ∙ last_fails (calls_of v) went.appended.entry its in
      let both : true ≡ false = sym some ∙ none in cc

-- a piece that failed, as a reply
pub fault_fails : {U : Type 0} (n file : ℕ) (bytes : List ℕ) (answer : Result U WriteError) → answer ≡ Err write.Fault → fails (WritePiece n file bytes) (write_reply answer) ≡ true
fault_fails {U} n file bytes answer is = ap (λ (a : Result U WriteError). fails (WritePiece n file bytes) (write_reply a)) is

-- what was written is what a job's file holds, as the seat shows it
pub whole_now : {C U : Type 0} (m : Meaning C) (before core : C) (self : Stand C) (table : TableId) (v v' w : Known C) (n f : ℕ) (bytes : List ℕ) (answer : Result U WriteError)
    (out out' : JobFile) → (view : self ≡ stand table v) → (went : Went m (WritePiece n f bytes) (write_reply answer) before core v v' w)
    → IsJobOf out (IsOpen (seat_meaning m) self) → out'.file ≡ out.file
    → (IsTrue (m.tells before) → HasWritten (m.shows before) out → answer ≢ Err write.Fault → HasWritten (m.shows core) out')
    → IsTrue (told_by m self.known.start) → HasWritten (bytes_in self.known.seen.kept) out → answer ≢ Err write.Fault → HasWritten (bytes_in w.seen.kept) out'
whole_now m before core self table v v' w n f bytes answer out out' view went of same whole t h sure =
    let then = told_back m went.key before self table v view went.start went.found t in
    let old : HasWritten (m.shows before) out = h ∙ ap length (file_then m went.key before self table v view went.start went.found then out of) in
    let o = job_hold out (IsOpen (seat_meaning m) self) of in
    let mine = its m went.key before self table v view went.start went.found o.0 o.1 in
    let named : is_among out'.file (files_of o.0) ≡ true = subst (λ (x : ℕ). is_among x (files_of o.0) ≡ true) (sym same) (written_is_its o.0 out.file o.2) in
    whole then old sure ∙ ap length (sym (shows_now m (WritePiece n f bytes) (write_reply answer) before core v v' w went o.0
    (stays_now m (WritePiece n f bytes) (write_reply answer) before core v v' w went o.0 mine refl) out'.file named))

-- ---- a compaction

pub joins_some : {C : Type 0} (m : Meaning C) (before : C) (answer : Result (Option CompactJob) BeginError)
    → IfOk answer (λ begun. IfSome begun (λ job. JoinsChoice (m.lists before) job.level job.pin.blocks))
    → IfOk answer (λ begun. IfSome begun (λ job. JoinsChoice (λ infos. ⊥) job.level job.pin.blocks))
joins_some m before (Err e) h = tt
joins_some m before (Ok None) h = tt
joins_some m before (Ok (Some job)) h = (h.0, h.1, h.2, λ told no. absurd no)

-- the blocks of a compaction that begins are blocks, as the seat shows them
pub seat_joins_whole : {C : Type 0} (m : Meaning C) (answer : Result (Option CompactJob) BeginError) (before core : C) (v v' w : Known C)
    → Went m BeginCompact (begin_compact_reply answer) before core v v' w
    → (IsTrue (m.tells core) → IfOk answer (λ begun. IfSome begun (λ job. (held : List Hold) → m.holds before held → AreBlocks (m.shows core) job.pin.blocks)))
    → (of : List Hold → Type 0) → IsTrue (told_by m w.start)
    → IfOk answer (λ begun. IfSome begun (λ job. (held : List Hold) → of held → AreBlocks (bytes_in w.seen.kept) job.pin.blocks))
seat_joins_whole m (Err e) before core v v' w went whole of t = tt
seat_joins_whole m (Ok None) before core v v' w went whole of t = tt
seat_joins_whole m (Ok (Some job)) before core v v' w went whole of t = λ held is.
    let r : Reply = begin_compact_reply (Ok (Some job)) in
    let h = whole (told_now m BeginCompact r before core v v' w went t) went.found.held went.found.holds in (
      h.0,
      blocks_in (m.shows core) (bytes_in w.seen.kept) job.pin.blocks h.0
          (λ file e. shows_now m BeginCompact r before core v v' w went (OpenCompact (compact_parts job))
          (opened_now m BeginCompact r before core v v' w went (OpenCompact (compact_parts job)) (0, omega arith, refl)) file
          (later_among file job.out.file (info_files job.pin.blocks) e)) h.1,
    )

pub seat_blocks : {C : Type 0} (m : Meaning C) (answer : Result (Option CompactJob) BeginError) (before core : C) (v v' w : Known C)
    → Went m BeginCompact (begin_compact_reply answer) before core v v' w
    → (IsTrue (m.tells core) → IfOk answer (λ begun. IfSome begun (λ job. (u : View) → m.knows core u → AreBlocks (m.shows core) job.pin.blocks)))
    → IsTrue (told_by m w.start)
    → IfOk answer (λ begun. IfSome begun (λ job. (u : View) → SeatKnows m w u → AreBlocks (bytes_in w.seen.kept) job.pin.blocks))
seat_blocks m (Err e) before core v v' w went blocks t = tt
seat_blocks m (Ok None) before core v v' w went blocks t = tt
seat_blocks m (Ok (Some job)) before core v v' w went blocks t = λ u knows.
    let r : Reply = begin_compact_reply (Ok (Some job)) in
    let known = known_now m BeginCompact r before core v v' w went u knows in
    let h = blocks (told_now m BeginCompact r before core v v' w went t) known.0 known.1 in (
      h.0,
      blocks_in (m.shows core) (bytes_in w.seen.kept) job.pin.blocks h.0
          (λ file e. shows_now m BeginCompact r before core v v' w went (OpenCompact (compact_parts job))
          (opened_now m BeginCompact r before core v v' w went (OpenCompact (compact_parts job)) (0, omega arith, refl)) file
          (later_among file job.out.file (info_files job.pin.blocks) e)) h.1,
    )
