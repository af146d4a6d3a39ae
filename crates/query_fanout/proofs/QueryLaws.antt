-- What a query that was asked over a port tells of the history.
use Rattle.std.proofs.Common.{◌≡◌, inl, inr, ℕ, List, [], ◌∷◌, ◌++◌, Result, Err, refl, sym, ap, subst, ◌∙◌, arith}
use Rattle.std.specs.Prelude.{IsTrue}
use Rattle.std.proofs.lemmas.List.Elements.{filter-append}
use Rattle.span_types.specs.declared.ids.Key.{Key}
use Rattle.span_types.specs.declared.ids.TraceId.{TraceId}
use Rattle.span_types.specs.declared.spans.Row.{Row}
use Rattle.span_types.specs.First.{IsFirstOf, first_at}
use Rattle.span_types.proofs.FirstLaws.{first_at-firsts, firsts_alike}
use Rattle.rows_by_trace.specs.Traces.{is_of_trace, rows_of_trace}
use Rattle.rows_by_trace.proofs.TraceLaws.{trace_of_firsts}
use Rattle.block_info.specs.InfoParts.{InfoParts}
use Rattle.store_model.specs.Event.{Event as event, Reply as reply, Refusal as cause}
use Rattle.store_model.specs.History.{History, count_of, history_rows, up_to}
use Rattle.store_model.specs.Holds.{Hold}
use Rattle.store_model.proofs.FirstsExist.{firsts_exist}
use Rattle.store_state.specs.Given.{look_of, look_parts}
use Rattle.store_state.specs.Made.{call}
use Rattle.store_state.specs.Meaning.{Meaning, Called, IsOpen, View}
use Rattle.store_state.specs.Kept.{HasKept, Kept}
use Rattle.store_state.specs.Shown.{AreBlocks, ShowsHistory}
use Rattle.store_state.specs.declared.jobs.Look.{Look}
use Rattle.store_state.proofs.HoldLaws.{opens_new}
use Rattle.query_fanout.specs.Bounds.{all_rows}
use Rattle.query_fanout.specs.TraceAnswers.{IsTraceAnswer}
use Rattle.query_fanout.specs.Queries.{HasAsked, Sound}
use Rattle.query_fanout.specs.Reading.{AreOfTrace, BlocksRead}
use Rattle.query_fanout.specs.declared.error.QueryError.{QueryError}
use Rattle.query_fanout.specs.declared.error.QueryError.TheVariants.{Memory}
use Rattle.query_fanout.specs.declared.trace.TraceAnswer.{TraceAnswer}
use Rattle.query_fanout.proofs.CallLaws.{made_after}
use Rattle.query_fanout.proofs.Later.{knows_later, sound_map, told_later, whole_history}

-- the same first occurrences
abbrev pub AreAlike : List Row → List Row → Type 0
AreAlike a b = (k : Key) → first_at k a ≡ first_at k b

-- What is told of rows is told of all rows with the same first occurrences.
abbrev pub TellsFirsts : {A : Type 0} → (ℕ → List Row → A → Type 0) → Type 0
TellsFirsts {A} tells = (x : A) (n : ℕ) (a b : List Row) → AreAlike a b → tells n a x → tells n b x

-- Lists with the same first occurrences have the same of each trace.
pub trace_alike : (id : TraceId) (a b firsts : List Row) → AreAlike a b → IsFirstOf (rows_of_trace id a) firsts → IsFirstOf (rows_of_trace id b) firsts
trace_alike id a b firsts same is =
    let all = firsts_exist a in
    let of_a : IsFirstOf (rows_of_trace id a) (rows_of_trace id all.0) = trace_of_firsts id a all.0 all.1 in
    let of_b : IsFirstOf (rows_of_trace id b) (rows_of_trace id all.0) = trace_of_firsts id b all.0 (firsts_alike a b all.0 same all.1) in
    firsts_alike (rows_of_trace id a) (rows_of_trace id b) firsts
    (λ k. sym (first_at-firsts (rows_of_trace id a) (rows_of_trace id all.0) of_a k) ∙ first_at-firsts (rows_of_trace id b) (rows_of_trace id all.0) of_b k) is

pub trace_tells_firsts : (id : TraceId) → TellsFirsts (IsTraceAnswer id)
trace_tells_firsts id x n a b same h = record { count = h.count; firsts = trace_alike id a b x.rows same h.firsts }

-- ---- what is asked of an open look

abbrev pub given : Look → reply
given look = reply.Looked (look_parts look)

-- a look that was just given is open
pub is_open : {P : Type 0} (meaning : Meaning P) (old new : P) (look : Look) → Called meaning old event.Look (given look) new → ((held : List Hold) × meaning.holds old held)
    → IsOpen meaning new (look_of look)
is_open meaning old new look called holds = opens_new meaning old new event.Look (given look) (look_of look) called holds (0, omega arith, refl)

pub trace_answers : (id : TraceId) (look : Look) (found : List Row) (x : TraceAnswer) → IsFirstOf (rows_of_trace id look.rows ++ found) x.rows → x.as_of ≡ look.as_of
    → (rows : List Row) → AreOfTrace id rows found → IsTraceAnswer id look.as_of (look.rows ++ rows) x
trace_answers id look found x firsts count rows are = record {
  count = count;
  firsts = subst (λ (l : List Row). IsFirstOf l x.rows)
      (ap (λ (l : List Row). rows_of_trace id look.rows ++ l) are ∙ sym (filter-append (is_of_trace id) look.rows rows)) firsts;
}

-- ---- what is asked over a port

module _ {P A : Type 0} (meaning : Meaning P) (old : P) (tells : ℕ → List Row → A → Type 0) where
  pub not_looked : (new : P) → Called meaning old event.Look (reply.Refused cause.Memory) new → HasAsked meaning old tells (Err Memory) new
  not_looked new called = record {
    calls = call event.Look (reply.Refused cause.Memory) ∷ [];
    made = (new, called, refl);
    asked = inl (refl, refl);
    told = λ told v known.
        knows_later meaning old new (call event.Look (reply.Refused cause.Memory) ∷ []) v (λ later. Unit {0}) (new, called, refl) known (λ later. tt);
    whole = λ told. tt;
  }

  pub has_asked : (mid late new : P) (look : Look) {within : List (List Row) → ℕ → ℕ → Type 0} (r : Result A QueryError) → TellsFirsts tells → Called meaning old event.Look (given look) mid
      → ((v : View) → meaning.knows mid v → ShowsHistory (IsTrue (meaning.tells mid)) (meaning.shows mid) look v.history)
      → BlocksRead meaning look look.pin.blocks (λ rows x. tells look.as_of (look.rows ++ rows) x) (λ rows x. tells look.as_of (look.rows ++ rows) x) within mid r late
      → Called meaning late (event.Done look.pin.number) reply.Fine new → ((held : List Hold) × meaning.holds old held)
      → (IsTrue (meaning.tells mid) → (held : List Hold) → meaning.holds old held → AreBlocks (meaning.shows mid) look.pin.blocks) → HasAsked meaning old tells r new
  has_asked mid late new look r respects looked shown read ended holds whole = record {
    calls = call event.Look (given look) ∷ (read.pages.calls ++ call (event.Done look.pin.number) reply.Fine ∷ []);
    made = (mid, looked, made_after meaning mid late new read.pages.calls (call (event.Done look.pin.number) reply.Fine ∷ []) read.pages.made (new, ended, refl));
    asked = inr (record { pin = look.pin.number; blocks = look.pin.blocks; as_of = look.as_of; rows = look.rows }, read.pages.calls, refl, read.pages.are, read.comes);
    told = λ told v known.
        told_later meaning tells old mid new (look_parts look) (read.pages.calls ++ call (event.Done look.pin.number) reply.Fine ∷ []) r looked
        (made_after meaning mid late new read.pages.calls (call (event.Done look.pin.number) reply.Fine ∷ []) read.pages.made (new, ended, refl)) v known
        (λ now knows count. of_history now.history count (shown now knows) (subst IsTrue (sym looked.telling) told));
    whole = λ told.
        let known : IsTrue (meaning.tells mid) = subst IsTrue (sym looked.telling) told in
        let are = whole known holds.0 holds.1 in
        sound_map (λ (x : A). tells look.as_of (all_rows look.rows are.0) x) (λ (x : A). Unit {0}) r (λ x h. tt) (read.told known are.0 are.1);
  }
    where
      of_history : (h : History) → look.as_of ≡ count_of h → ShowsHistory (IsTrue (meaning.tells mid)) (meaning.shows mid) look h → IsTrue (meaning.tells mid)
          → Sound (λ (x : A). tells look.as_of (history_rows h) x) r
      of_history h count shows told =
          let alike : AreAlike (all_rows look.rows shows.parts) (history_rows h) =
          λ k. shows.firsts k ∙ ap (λ (n : ℕ). first_at k (history_rows (up_to n h))) count ∙ ap (λ (g : History). first_at k (history_rows g)) (whole_history h) in
          sound_map (λ (x : A). tells look.as_of (all_rows look.rows shows.parts) x) (λ (x : A). tells look.as_of (history_rows h) x) r
          (λ x h'. respects x look.as_of (all_rows look.rows shows.parts) (history_rows h) alike h')
          (read.told told shows.parts (shows.their_rows told))

-- ---- how much is read

module _ {P : Type 0} (meaning : Meaning P) (old : P) where
  pub not_read : (new : P) → Called meaning old event.Look (reply.Refused cause.Memory) new → meaning.reads new ≡ meaning.reads old
  not_read new called =
      let rise = called.reads_rise in
      let low = called.reads_bound in
      omega (arith, rise, low)

  -- neither a look nor its end reads
  pub read_within : {A : Type 0} {some fits : List Row → A → Type 0} (within : List InfoParts → List Row → List (List Row) → ℕ → ℕ → Type 0) (mid late new : P) (look : Look) (r : Result A QueryError) (kept : Kept)
      → Called meaning old event.Look (given look) mid → HasKept (meaning.shows mid) look kept
      → BlocksRead meaning look look.pin.blocks some fits (within look.pin.blocks look.rows) mid r late → Called meaning late (event.Done look.pin.number) reply.Fine new
      → IsTrue (meaning.tells old) → within kept.infos kept.outside kept.parts (meaning.reads old) (meaning.reads new)
  read_within within mid late new look r kept looked has read ended told =
      let rise = looked.reads_rise in
      let low = looked.reads_bound in
      let last_rise = ended.reads_rise in
      let last_low = ended.reads_bound in
      let begins : meaning.reads mid ≡ meaning.reads old = omega (arith, rise, low) in
      let stops : meaning.reads late ≡ meaning.reads new = omega (arith, last_rise, last_low) in
      subst (λ (infos : List InfoParts). within infos kept.outside kept.parts (meaning.reads old) (meaning.reads new)) has.pinned
      (subst (λ (rows : List Row). within look.pin.blocks rows kept.parts (meaning.reads old) (meaning.reads new)) has.outside
      (subst (λ (n : ℕ). within look.pin.blocks look.rows kept.parts (meaning.reads old) n) stops
      (subst (λ (n : ℕ). within look.pin.blocks look.rows kept.parts n (meaning.reads late)) begins
      (read.bounded (subst IsTrue (sym looked.telling) told) kept.parts has.blocks))))
