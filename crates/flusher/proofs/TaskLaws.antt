-- How a flush's task goes on.
use Rattle.std.proofs.Common.{rules, ◌≡◌, ℕ, ◌+◌, ◌≤◌, ◌==◌, zero, suc, List, [], ◌∷◌, ◌++◌, true, false, refl, sym, ◌∙◌, ap, subst, arith, length, take, drop, if◌then◌else◌}
use Rattle.std.specs.Prelude.{IsTrue, ◌||◌}
use Rattle.span_types.specs.declared.spans.Row.{Row}
use Rattle.block_info.specs.InfoParts.{InfoParts}
use Rattle.block_format.specs.Blocks.{BlockHasInfo}
use Rattle.block_build.proofs.Firsts.{can_be_block}
use Rattle.store_model.specs.Event.Event.{WritePiece, CommitFlush}
use Rattle.store_model.specs.Event.{Reply as reply}
use Rattle.store_model.specs.Event.Reply.{Fine}
use Rattle.store_state.specs.Given.{flush_of}
use Rattle.store_state.specs.Made.{Call, call}
use Rattle.store_state.specs.Meaning.{Meaning, IsOpen, Called}
use Rattle.store_state.specs.Replies.{write_refusal}
use Rattle.store_state.specs.Rounds.{write_cause}
use Rattle.store_state.specs.Written.{IsBlockOf}
use Rattle.store_state.specs.declared.errors.WriteError.{WriteError}
use Rattle.store_state.specs.declared.jobs.FlushJob.{FlushJob}
use Rattle.store_state.specs.declared.jobs.JobFile.{JobFile}
use Rattle.store_state.specs.declared.rounds.Round.{Round}
use Rattle.store_state.specs.declared.rounds.Round.TheVariants.{Did, Refused}
use Rattle.store_state.proofs.HoldLaws.{stays_open}
use Rattle.flusher.specs.Rounds.{IsFlushBlock, Leads, Stage}
use Rattle.flusher.specs.Rounds.{Stage as stage}
use Rattle.flusher.specs.Rounds.Leads.{built, written, unwritten, listed, unlisted, over}
use Rattle.flusher.specs.Tasks.{IsWriting, OneEvent, Task}
use Rattle.flusher.specs.Tasks.Task.{Begun, Writing}

-- ---- lists

take_none : (n : ℕ) → take {A = ℕ} n [] ≡ []
take_none zero = refl
take_none (suc n) = refl

pub take_more : (w n : ℕ) (xs : List ℕ) → take w xs ++ take n (drop w xs) ≡ take (w + n) xs
take_more zero n xs = ap (λ m. take m xs) (plus n)
  where
    plus : (n : ℕ) → n ≡ 0 + n
    plus n = omega arith
take_more (suc w) n [] = take_none n ∙ sym (take_none (suc w + n))
take_more (suc w) n (x ∷ xs) = ap (λ ys. x ∷ ys) (take_more w n xs) ∙ ap (λ m. take m (x ∷ xs)) (plus w n)
  where
    plus : (w n : ℕ) → suc (w + n) ≡ suc w + n
    plus w n = omega arith

pub drop_all : (w : ℕ) (xs : List ℕ) → w ≡ length xs → drop w xs ≡ []
drop_all zero [] h = refl
drop_all zero (x ∷ xs) h = absurd (omega (arith, h))
drop_all (suc w) [] h = refl
drop_all (suc w) (x ∷ xs) h = drop_all w xs (omega (arith, h))

pub take_whole : (w : ℕ) (xs : List ℕ) → w ≡ length xs → take w xs ≡ xs
take_whole zero [] h = refl
take_whole zero (x ∷ xs) h = absurd (omega (arith, h))
take_whole (suc w) [] h = refl
take_whole (suc w) (x ∷ xs) h = ap (λ ys. x ∷ ys) (take_whole w xs (omega (arith, h)))

pub itself : (n : ℕ) → (n == n) ≡ true
itself n = search rules

-- ---- the block

-- a flush's block has rows, and no more than the job
pub block_rows : (file : ℕ) (rows : List Row) (bytes : List ℕ) (info : InfoParts) → IsFlushBlock file rows bytes info → 1 ≤ length rows → length rows ≤ 1048576
    → (1 ≤ info.rows) × (info.rows ≤ 1048576)
block_rows file rows bytes info is some few =
    let can = can_be_block rows is.firsts is.are_first some in
    (omega (arith, can.some, is.counted), omega (arith, can.few, is.counted, few))

-- what a flush wrote whole may be listed
pub may_be_listed : {P : Type 0} (meaning : Meaning P) (job : FlushJob) (bytes : List ℕ) (info : InfoParts) (port : P) → IsWriting meaning job bytes info port
    → job.out.written ≡ length bytes → IsTrue (meaning.tells port) → IsBlockOf (meaning.shows port job.out.file) info job.rows
may_be_listed meaning job bytes info port is whole told = record {
  firsts = is.block.firsts;
  are_first = is.block.are_first;
  block = subst (λ (b : List ℕ). BlockHasInfo info b is.block.firsts) (sym (is.so_far told ∙ take_whole job.out.written bytes whole)) is.block.describes;
}

-- ---- pieces

pub outs_equal : (a b : JobFile) → a.number ≡ b.number → a.file ≡ b.file → a.written ≡ b.written → a ≡ b
outs_equal a b hn hf hw =
    ap (λ n. record { number = n; file = a.file; written = a.written }) hn
    ∙ ap (λ f. record { number = b.number; file = f; written = a.written }) hf
    ∙ ap (λ w. record { number = b.number; file = b.file; written = w }) hw

after_piece : {P : Type 0} (meaning : Meaning P) (old new : P) (job : FlushJob) (bytes : List ℕ) (info : InfoParts) (piece : List ℕ)
    → IsWriting meaning job bytes info old → Called meaning old (WritePiece job.out.number job.out.file piece) Fine new
    → piece ≡ take (length piece) (drop job.out.written bytes) → job.out.written + length piece ≤ length bytes
    → IsWriting meaning (record { out = record { number = job.out.number; file = job.out.file; written = job.out.written + length piece }; rows = job.rows }) bytes info new
after_piece meaning old new job bytes info piece is called part within = record {
  is_open = stays_open meaning old new _ _ (flush_of job) called is.is_open refl;
  some = is.some;
  few = is.few;
  block = is.block;
  within = within;
  so_far = λ tells. let told : IsTrue (meaning.tells old) = subst IsTrue called.telling tells in
      called.bytes told (flush_of job) is.is_open refl job.out.file (ap (λ t. t || false) (itself job.out.file))
      ∙ ap (λ t. if t then meaning.shows old job.out.file ++ piece else meaning.shows old job.out.file) (itself job.out.file)
      ∙ ap (λ shown. shown ++ piece) (is.so_far told)
      ∙ ap (λ more. take job.out.written bytes ++ more) part
      ∙ take_more job.out.written (length piece) bytes;
}

-- A piece that was written brings the job's file on.
pub goes_on : {P : Type 0} (meaning : Meaning P) (old new : P) (job : FlushJob) (bytes : List ℕ) (info : InfoParts) (piece : List ℕ) (out : JobFile)
    → IsWriting meaning job bytes info old → Called meaning old (WritePiece job.out.number job.out.file piece) Fine new
    → piece ≡ take (length piece) (drop job.out.written bytes) → job.out.written + length piece ≤ length bytes
    → out.number ≡ job.out.number → out.file ≡ job.out.file → out.written ≡ job.out.written + length piece
    → IsWriting meaning (record { out = out; rows = job.rows }) bytes info new
goes_on meaning old new job bytes info piece out is called part within hn hf hw =
    subst (λ (o : JobFile). IsWriting meaning (record { out = o; rows = job.rows }) bytes info new)
    (sym (outs_equal out (record { number = job.out.number; file = job.out.file; written = job.out.written + length piece }) hn hf hw))
    (after_piece meaning old new job bytes info piece is called part within)

-- A job stays open as its file's record moves on.
pub still_open : {P : Type 0} (meaning : Meaning P) (new : P) (job : FlushJob) (out : JobFile) → IsOpen meaning new (flush_of job)
    → out.number ≡ job.out.number → out.file ≡ job.out.file → IsOpen meaning new (flush_of (record { out = out; rows = job.rows }))
still_open meaning new job out there hn hf =
    subst (λ (o : JobFile). IsOpen meaning new (flush_of (record { out = o; rows = job.rows })))
    (sym (outs_equal out (record { number = job.out.number; file = job.out.file; written = out.written }) hn hf refl)) there

-- ---- what leads on

-- a call after which the round has ended
pub ends_in : (s : Stage) (c : Call) (r : Round) → Leads s (c ∷ []) r → (calls : List Call) (round : Round) → Leads (stage.Ended r) calls round → Leads s (c ∷ calls) round
ends_in s c r last calls round (over _) = last

-- a piece that was written
pub leads_on : (number file size n f : ℕ) (rest left piece : List ℕ) → n ≡ number → f ≡ file → left ≡ drop 65536 rest → piece ≡ take 65536 rest → 1 ≤ length rest
    → (calls : List Call) (round : Round) → Leads (stage.Writing n f left size) calls round
    → Leads (stage.Writing number file rest size) (call (WritePiece number file piece) Fine ∷ calls) round
leads_on number file size n f rest left piece hn hf hl hp some calls round h =
    subst (λ (p : List ℕ). Leads (stage.Writing number file rest size) (call (WritePiece number file p) Fine ∷ calls) round) (sym hp)
    (written number file rest size some
    (subst (λ (x : ℕ). Leads (stage.Writing x file (drop 65536 rest) size) calls round) hn
    (subst (λ (x : ℕ). Leads (stage.Writing n x (drop 65536 rest) size) calls round) hf
    (subst (λ (x : List ℕ). Leads (stage.Writing n f x size) calls round) hl h))))

-- a piece that was refused
pub leads_out : (number file size n : ℕ) (rest piece : List ℕ) (why : WriteError) → n ≡ number → piece ≡ take 65536 rest → 1 ≤ length rest
    → (calls : List Call) (round : Round) → Leads (stage.Failing n (write_cause why)) calls round
    → Leads (stage.Writing number file rest size) (call (WritePiece number file piece) (reply.Refused (write_refusal why)) ∷ calls) round
leads_out number file size n rest piece why hn hp some calls round h =
    subst (λ (p : List ℕ). Leads (stage.Writing number file rest size) (call (WritePiece number file p) (reply.Refused (write_refusal why)) ∷ calls) round) (sym hp)
    (unwritten number file rest size why some (subst (λ (x : ℕ). Leads (stage.Failing x (write_cause why)) calls round) hn h))

-- the commit
pub leads_listed : (number file size : ℕ) (rest : List ℕ) → rest ≡ [] → Leads (stage.Writing number file rest size) (call (CommitFlush number size) Fine ∷ []) (Did 1 size)
leads_listed number file size rest none = subst (λ (x : List ℕ). Leads (stage.Writing number file x size) (call (CommitFlush number size) Fine ∷ []) (Did 1 size)) (sym none) (listed number file size)

pub leads_unlisted : (number file size : ℕ) (rest : List ℕ) (why : WriteError) → rest ≡ [] → Leads (stage.Writing number file rest size) (call (CommitFlush number size) (reply.Refused (write_refusal why)) ∷ []) (Refused (write_cause why))
leads_unlisted number file size rest why none = subst (λ (x : List ℕ). Leads (stage.Writing number file x size) (call (CommitFlush number size) (reply.Refused (write_refusal why)) ∷ []) (Refused (write_cause why))) (sym none) (unlisted number file size why)

-- Whatever is written first of a block is the first event after the begin.
pub from_start : {P : Type 0} (meaning : Meaning P) (old new : P) (job : FlushJob) (bytes : List ℕ) (info : InfoParts) (after : Task) → IsWriting meaning job bytes info old
    → job.out.written ≡ 0 → OneEvent meaning (Writing job bytes info) old after new → OneEvent meaning (Begun job) old after new
from_start meaning old new job bytes info after is start one = record {
  made = one.made;
  called = one.called;
  leads = λ calls round h. built job.out.number job.out.file job.rows bytes info is.block
      (subst (λ (w : ℕ). Leads (stage.Writing job.out.number job.out.file (drop w bytes) info.rows) (one.made ∷ calls) round) start (one.leads calls round h));
}
