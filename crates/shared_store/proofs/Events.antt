-- What an event ends, and what it writes, event by event.
use Rattle.std.proofs.Common.{◌≡◌, ℕ, ◌==◌, List, [], ◌∷◌, ◌++◌, Bool, true, false, refl, ◌∙◌, ap, subst, arith, if◌then◌else◌}
use Rattle.std.specs.List.{Contains}
use Rattle.store_model.specs.Event.{Event, Reply, LookParts, FlushParts, CompactParts}
use Rattle.store_model.specs.Event.Event.{Push, Cut, CutAll, Held, BeginFlush, BeginCompact, WritePiece, CommitFlush, CommitCompact, DropFlush, DropCompact, Look, ReadPage, Done, Reclaim}
use Rattle.store_model.specs.Event.Reply.{Count, Fine, Nothing, Flushing, Compacting, Looked, Page, Refused}
use Rattle.store_model.specs.Event.Refusal.{ReadOnly, StoreFull, LiveFull, Busy, FilesSpent, Fault, Memory}
use Rattle.store_model.specs.Fresh.{pin_of, job_of}
use Rattle.store_model.specs.Holds.{Hold, files_of, ends, opened, is_flush, is_compact, is_look}
use Rattle.store_model.specs.Holds.Hold.{OpenLook, OpenFlush, OpenCompact}
use Rattle.store_model.specs.State.{is_among}
use Rattle.store_state.specs.Meaning.{Rewritten}
use Rattle.span_types.specs.declared.spans.Span.{Span}
use Rattle.store_model.proofs.Numbers.{equal_itself}
use Rattle.shared_store.specs.Apart.{AreStrangers, AllStrangers, written_by}
use Rattle.shared_store.specs.Rule.{IsOwn}

no : false ≡ true → ⊥
no e = cc

both : (b : Bool) → b ≡ true → b ≡ false → ⊥
both true e f = cc
both false e f = cc

one_among : (n a : ℕ) → (a == n) ≡ true → is_among n (a ∷ []) ≡ true
one_among n a e = rw e refl

two_flushes : (n : ℕ) (one other : Hold) → is_flush n one ≡ true → is_flush n other ≡ true → AreStrangers one other → ⊥
two_flushes n (OpenFlush a) (OpenFlush b) e h st = both (is_among n (b.number ∷ [])) (one_among n b.number h) (st.jobs n (one_among n a.number e))
two_flushes n (OpenFlush a) (OpenLook b) e h st = no h
two_flushes n (OpenFlush a) (OpenCompact b) e h st = no h
two_flushes n (OpenLook a) other e h st = no e
two_flushes n (OpenCompact a) other e h st = no e

two_compactions : (n : ℕ) (one other : Hold) → is_compact n one ≡ true → is_compact n other ≡ true → AreStrangers one other → ⊥
two_compactions n (OpenCompact a) (OpenCompact b) e h st = both (is_among n (b.number ∷ [])) (one_among n b.number h) (st.jobs n (one_among n a.number e))
two_compactions n (OpenCompact a) (OpenLook b) e h st = no h
two_compactions n (OpenCompact a) (OpenFlush b) e h st = no h
two_compactions n (OpenLook a) other e h st = no e
two_compactions n (OpenFlush a) other e h st = no e

two_looks : (n : ℕ) (one other : Hold) → is_look n one ≡ true → is_look n other ≡ true → AreStrangers one other → ⊥
two_looks n (OpenLook a) (OpenLook b) e h st = both (is_among n (b.pin ∷ [])) (one_among n b.pin h) (st.pins n (one_among n a.pin e))
two_looks n (OpenLook a) (OpenFlush b) e h st = no h
two_looks n (OpenLook a) (OpenCompact b) e h st = no h
two_looks n (OpenFlush a) other e h st = no e
two_looks n (OpenCompact a) other e h st = no e

-- One event doesn't end two that are apart.
pub ends_one : (event : Event) (reply : Reply) (one other : Hold) → ends event reply one ≡ true → ends event reply other ≡ true → AreStrangers one other → ⊥
ends_one (CommitFlush n size) Fine one other e h st = two_flushes n one other e h st
ends_one (CommitFlush n size) (Count k) one other e h st = no e
ends_one (CommitFlush n size) Nothing one other e h st = no e
ends_one (CommitFlush n size) (Flushing job) one other e h st = no e
ends_one (CommitFlush n size) (Compacting job) one other e h st = no e
ends_one (CommitFlush n size) (Looked look) one other e h st = no e
ends_one (CommitFlush n size) (Page bytes) one other e h st = no e
ends_one (CommitFlush n size) (Refused why) one other e h st = no e
ends_one (CommitCompact n size) Fine one other e h st = two_compactions n one other e h st
ends_one (CommitCompact n size) (Count k) one other e h st = no e
ends_one (CommitCompact n size) Nothing one other e h st = no e
ends_one (CommitCompact n size) (Flushing job) one other e h st = no e
ends_one (CommitCompact n size) (Compacting job) one other e h st = no e
ends_one (CommitCompact n size) (Looked look) one other e h st = no e
ends_one (CommitCompact n size) (Page bytes) one other e h st = no e
ends_one (CommitCompact n size) (Refused why) one other e h st = no e
ends_one (DropFlush n) reply one other e h st = two_flushes n one other e h st
ends_one (DropCompact n) reply one other e h st = two_compactions n one other e h st
ends_one (Done n) reply one other e h st = two_looks n one other e h st
ends_one (Push spans moment) reply one other e h st = no e
ends_one (Cut moment) reply one other e h st = no e
ends_one CutAll reply one other e h st = no e
ends_one Held reply one other e h st = no e
ends_one BeginFlush reply one other e h st = no e
ends_one BeginCompact reply one other e h st = no e
ends_one (WritePiece n f bytes) reply one other e h st = no e
ends_one Look reply one other e h st = no e
ends_one (ReadPage p b page) reply one other e h st = no e
ends_one Reclaim reply one other e h st = no e

-- A file that the event doesn't write keeps its bytes.
pub not_written : (event : Event) (reply : Reply) (file : ℕ) (old new : List ℕ) → Rewritten event reply file old new
    → ((n own : ℕ) (bytes : List ℕ) → event ≡ WritePiece n own bytes → (own == file) ≡ false) → new ≡ old
not_written (WritePiece n own bytes) Fine file old new is other = is ∙ ap (λ (t : Bool). if t then old ++ bytes else old) (other n own bytes refl)
not_written (WritePiece n own bytes) (Refused Fault) file old new is other = is (other n own bytes refl)
not_written (WritePiece n own bytes) (Refused (ReadOnly k)) file old new is other = is
not_written (WritePiece n own bytes) (Refused (StoreFull k)) file old new is other = is
not_written (WritePiece n own bytes) (Refused (LiveFull k)) file old new is other = is
not_written (WritePiece n own bytes) (Refused (Busy k)) file old new is other = is
not_written (WritePiece n own bytes) (Refused (FilesSpent k)) file old new is other = is
not_written (WritePiece n own bytes) (Refused Memory) file old new is other = is
not_written (WritePiece n own bytes) (Count k) file old new is other = is
not_written (WritePiece n own bytes) Nothing file old new is other = is
not_written (WritePiece n own bytes) (Flushing job) file old new is other = is
not_written (WritePiece n own bytes) (Compacting job) file old new is other = is
not_written (WritePiece n own bytes) (Looked look) file old new is other = is
not_written (WritePiece n own bytes) (Page page) file old new is other = is
not_written (Push spans moment) reply file old new is other = is
not_written (Cut moment) reply file old new is other = is
not_written CutAll reply file old new is other = is
not_written Held reply file old new is other = is
not_written BeginFlush reply file old new is other = is
not_written BeginCompact reply file old new is other = is
not_written (CommitFlush n size) reply file old new is other = is
not_written (CommitCompact n size) reply file old new is other = is
not_written (DropFlush n) reply file old new is other = is
not_written (DropCompact n) reply file old new is other = is
not_written Look reply file old new is other = is
not_written (ReadPage p b page) reply file old new is other = is
not_written (Done p) reply file old new is other = is
not_written Reclaim reply file old new is other = is

-- What one reply opens is one thing at most.
pub opened_strangers : (reply : Reply) → AllStrangers (opened reply)
opened_strangers (Count n) = tt
opened_strangers Fine = tt
opened_strangers Nothing = tt
opened_strangers (Flushing job) = ((λ other c. absurd (omega (arith, c.1))), tt)
opened_strangers (Compacting job) = ((λ other c. absurd (omega (arith, c.1))), tt)
opened_strangers (Looked look) = ((λ other c. absurd (omega (arith, c.1))), tt)
opened_strangers (Page bytes) = tt
opened_strangers (Refused why) = tt

other_way : (b : Bool) → (b ≡ true → ⊥) → b ≡ false
other_way true h = absurd (h refl)
other_way false h = refl

pub turned : (one other : Hold) → AreStrangers one other → AreStrangers other one
turned one other st = record {
  pins = λ n h. other_way (is_among n (pin_of one)) (λ g. both (is_among n (pin_of other)) h (st.pins n g));
  jobs = λ n h. other_way (is_among n (job_of one)) (λ g. both (is_among n (job_of other)) h (st.jobs n g));
  writes = st.written;
  written = st.writes;
}

-- ---- what is the caller's own

pub own_held : (holds : List Hold) (reply : Reply) → IsOwn holds Held reply
own_held holds reply = record { ended = λ hold e. absurd (no e); written = λ n file bytes e. cc; read = λ p b page e. cc }

pub own_push : (holds : List Hold) (spans : List Span) (moment : ℕ) (reply : Reply) → IsOwn holds (Push spans moment) reply
own_push holds spans moment reply = record { ended = λ hold e. absurd (no e); written = λ n file bytes e. cc; read = λ p b page e. cc }

pub own_look : (holds : List Hold) (reply : Reply) → IsOwn holds Look reply
own_look holds reply = record { ended = λ hold e. absurd (no e); written = λ n file bytes e. cc; read = λ p b page e. cc }

pub own_done : (holds : List Hold) (look : LookParts) (reply : Reply) → Contains holds (OpenLook look) → IsOwn holds (Done look.pin) reply
own_done holds look reply c = record {
  ended = λ hold e. (OpenLook look, c, equal_itself look.pin);
  written = λ n file bytes e. cc;
  read = λ p b page e. cc;
}

pub own_cut : (holds : List Hold) (moment : ℕ) (reply : Reply) → IsOwn holds (Cut moment) reply
own_cut holds moment reply = record { ended = λ hold e. absurd (no e); written = λ n file bytes e. cc; read = λ p b page e. cc }

pub own_cut_all : (holds : List Hold) (reply : Reply) → IsOwn holds CutAll reply
own_cut_all holds reply = record { ended = λ hold e. absurd (no e); written = λ n file bytes e. cc; read = λ p b page e. cc }

pub own_begin_flush : (holds : List Hold) (reply : Reply) → IsOwn holds BeginFlush reply
own_begin_flush holds reply = record { ended = λ hold e. absurd (no e); written = λ n file bytes e. cc; read = λ p b page e. cc }

pub own_begin_compact : (holds : List Hold) (reply : Reply) → IsOwn holds BeginCompact reply
own_begin_compact holds reply = record { ended = λ hold e. absurd (no e); written = λ n file bytes e. cc; read = λ p b page e. cc }

pub own_reclaim : (holds : List Hold) (reply : Reply) → IsOwn holds Reclaim reply
own_reclaim holds reply = record { ended = λ hold e. absurd (no e); written = λ n file bytes e. cc; read = λ p b page e. cc }

abbrev file_of : Event → ℕ
file_of (WritePiece n file bytes) = file
file_of (ReadPage p block page) = block
file_of _ = 0

pub own_piece : (holds : List Hold) (n file : ℕ) (bytes : List ℕ) (reply : Reply) (mine : Hold) → Contains holds mine → is_among file (written_by mine) ≡ true
    → IsOwn holds (WritePiece n file bytes) reply
own_piece holds n file bytes reply mine c h = record {
  ended = λ hold e. absurd (no e);
  written = λ k f bs e. (mine, c, subst (λ (x : ℕ). is_among x (written_by mine) ≡ true) (ap file_of e) h);
  read = λ p b page e. cc;
}

pub own_page : (holds : List Hold) (pin block page : ℕ) (reply : Reply) (mine : Hold) → Contains holds mine → is_among block (files_of mine) ≡ true
    → IsOwn holds (ReadPage pin block page) reply
own_page holds pin block page reply mine c h = record {
  ended = λ hold e. absurd (no e);
  written = λ k f bs e. cc;
  read = λ p b g e. (mine, c, subst (λ (x : ℕ). is_among x (files_of mine) ≡ true) (ap file_of e) h);
}

flush_ends : (n size : ℕ) (reply : Reply) (hold mine : Hold) → is_flush n mine ≡ true → ends (CommitFlush n size) reply hold ≡ true → ends (CommitFlush n size) reply mine ≡ true
flush_ends n size Fine hold mine h e = h
flush_ends n size _ hold mine h e = e

compaction_ends : (n size : ℕ) (reply : Reply) (hold mine : Hold) → is_compact n mine ≡ true → ends (CommitCompact n size) reply hold ≡ true → ends (CommitCompact n size) reply mine ≡ true
compaction_ends n size Fine hold mine h e = h
compaction_ends n size _ hold mine h e = e

pub own_commit_flush : (holds : List Hold) (job : FlushParts) (size : ℕ) (reply : Reply) → Contains holds (OpenFlush job) → IsOwn holds (CommitFlush job.number size) reply
own_commit_flush holds job size reply c = record {
  ended = λ hold e. (OpenFlush job, c, flush_ends job.number size reply hold (OpenFlush job) (equal_itself job.number) e);
  written = λ n file bytes e. cc;
  read = λ p b page e. cc;
}

pub own_drop_flush : (holds : List Hold) (job : FlushParts) (reply : Reply) → Contains holds (OpenFlush job) → IsOwn holds (DropFlush job.number) reply
own_drop_flush holds job reply c = record {
  ended = λ hold e. (OpenFlush job, c, equal_itself job.number);
  written = λ n file bytes e. cc;
  read = λ p b page e. cc;
}

pub own_commit_compact : (holds : List Hold) (job : CompactParts) (size : ℕ) (reply : Reply) → Contains holds (OpenCompact job)
    → IsOwn holds (CommitCompact job.number size) reply
own_commit_compact holds job size reply c = record {
  ended = λ hold e. (OpenCompact job, c, compaction_ends job.number size reply hold (OpenCompact job) (equal_itself job.number) e);
  written = λ n file bytes e. cc;
  read = λ p b page e. cc;
}

pub own_drop_compact : (holds : List Hold) (job : CompactParts) (reply : Reply) → Contains holds (OpenCompact job) → IsOwn holds (DropCompact job.number) reply
own_drop_compact holds job reply c = record {
  ended = λ hold e. (OpenCompact job, c, equal_itself job.number);
  written = λ n file bytes e. cc;
  read = λ p b page e. cc;
}
