-- Reading runs and records one after the other, as a loop does.
use Rattle.std.proofs.Common.{◌≡◌, ℕ, suc, ◌-◌, ◌+◌, ◌<◌, ◌≤◌, Bool, true, false, cond, eqb, ltb, List, [], ◌∷◌, ◌++◌, Result, Ok, Err, refl, sym, ap, ◌∙◌, arith}
use Rattle.std.proofs.lemmas.Bool.{lt-ltb, ne_eqb, eq-eqb}
use Rattle.span_types.specs.declared.spans.Span.{Span}
use Rattle.byte_fields.specs.Reading.{Stand, ◌>>=◌, byte_at}
use Rattle.byte_fields.specs.declared.breaks.Break.{Break}
use Rattle.byte_fields.specs.declared.breaks.Break.TheVariants as breaks
use Rattle.byte_fields.specs.Breaks.{Fails, in_part}
use Rattle.byte_fields.specs.Laws.{read_to}
use Rattle.head_log.specs.declared.numbered.NumberedBatch.{NumberedBatch}
use Rattle.head_log.specs.Scanning.{runs_at, numbered, record_at, more_at, records_at}

-- ---- runs

pub runs_go_on : (read : Bool → List Span → Stand → Result (List Span × Stand) ℕ) (count i : ℕ) (before new : List Span) (s t : Stand) (total : Result (List Span × Stand) ℕ)
    → i < count → read (ltb 0 i) before s ≡ read_to new t → runs_at read (count - i) (ltb 0 i) before s ≡ total → runs_at read (count - (i + 1)) (ltb 0 (i + 1)) new t ≡ total
unfolding runs_at
runs_go_on read count i before new s t total lt h so_far =
    let k : count - i ≡ suc (count - (i + 1)) = omega arith in
    let later : ltb 0 (i + 1) ≡ true = lt-ltb 0 (i + 1) (omega arith) in
    let one : runs_at read (count - i) (ltb 0 i) before s ≡ runs_at read (count - (i + 1)) true new t = rw (k, h) refl in
    ap (λ (b : Bool). runs_at read (count - (i + 1)) b new t) later ∙ sym one ∙ so_far

pub runs_fail : (e : Break) (read : Bool → List Span → Stand → Result (List Span × Stand) ℕ) (count i : ℕ) (before : List Span) (s : Stand) (total : Result (List Span × Stand) ℕ)
    → i < count → Fails e (read (ltb 0 i) before s) → runs_at read (count - i) (ltb 0 i) before s ≡ total → Fails e total
unfolding runs_at
runs_fail breaks.Memory read count i before s total lt h so_far = tt
runs_fail (breaks.At place) read count i before s total lt h so_far =
    let k : count - i ≡ suc (count - (i + 1)) = omega arith in
    let one : runs_at read (count - i) (ltb 0 i) before s ≡ Err place = rw (k, h) refl in
    sym so_far ∙ one

pub runs_done : (read : Bool → List Span → Stand → Result (List Span × Stand) ℕ) (count i : ℕ) (before : List Span) (s : Stand) (total : Result (List Span × Stand) ℕ)
    → count ≤ i → runs_at read (count - i) (ltb 0 i) before s ≡ total → total ≡ read_to before s
unfolding runs_at
runs_done read count i before s total le so_far =
    let k : count - i ≡ 0 = omega arith in
    let one : runs_at read (count - i) (ltb 0 i) before s ≡ read_to before s = rw k refl in
    sym so_far ∙ one

-- ---- records

records_step : (k number : ℕ) (before : List NumberedBatch) (s : Stand) → records_at (suc k) number before s
    ≡ (in_part false byte_at s >>= λ gate. cond (eqb gate.0 1) (more_at (records_at k) number before gate.1) (Ok (before, s)))
unfolding records_at
records_step k number before s = refl

left_over : (count i number : ℕ) (before : List NumberedBatch) (s : Stand) (total : Result (List NumberedBatch × Stand) ℕ) → i < count → records_at (count - i) number before s ≡ total
    → (in_part false byte_at s >>= λ gate. cond (eqb gate.0 1) (more_at (records_at (count - (i + 1))) number before gate.1) (Ok (before, s))) ≡ total
left_over count i number before s total lt so_far =
    let k : count - i ≡ suc (count - (i + 1)) = omega arith in
    sym (ap (λ (n : ℕ). records_at n number before s) k ∙ records_step (count - (i + 1)) number before s) ∙ so_far

pub records_no_gate : (e : Break) (count i number : ℕ) (before : List NumberedBatch) (s : Stand) (total : Result (List NumberedBatch × Stand) ℕ)
    → i < count → Fails e (in_part false byte_at s) → records_at (count - i) number before s ≡ total → Fails e total
records_no_gate breaks.Memory count i number before s total lt h so_far = tt
records_no_gate (breaks.At place) count i number before s total lt h so_far =
    let now = left_over count i number before s total lt so_far in
    sym (rw h at now)

pub records_closed : (count i number : ℕ) (before : List NumberedBatch) (s : Stand) (b : ℕ) (t : Stand) (total : Result (List NumberedBatch × Stand) ℕ)
    → i < count → in_part false byte_at s ≡ read_to b t → (b ≡ 1 → ⊥) → records_at (count - i) number before s ≡ total → total ≡ read_to before s
records_closed count i number before s b t total lt h shut so_far =
    let now = left_over count i number before s total lt so_far in
    let test : eqb b 1 ≡ false = ne_eqb b 1 shut in
    sym (rw test at (rw h at now))

pub records_broken : (e : Break) (count i number : ℕ) (before : List NumberedBatch) (s : Stand) (b : ℕ) (t : Stand) (total : Result (List NumberedBatch × Stand) ℕ)
    → i < count → in_part false byte_at s ≡ read_to b t → b ≡ 1 → Fails e (record_at number t) → records_at (count - i) number before s ≡ total → Fails e total
unfolding more_at
records_broken breaks.Memory count i number before s b t total lt h open_gate broken so_far = tt
records_broken (breaks.At place) count i number before s b t total lt h open_gate broken so_far =
    let now = left_over count i number before s total lt so_far in
    let test : eqb b 1 ≡ true = eq-eqb b 1 open_gate in
    let step = rw test at (rw h at now) in
    sym (rw broken at step)

pub records_go_on : (count i number : ℕ) (before new : List NumberedBatch) (s : Stand) (b : ℕ) (t : Stand) (spans : List Span) (u : Stand) (total : Result (List NumberedBatch × Stand) ℕ)
    → i < count → in_part false byte_at s ≡ read_to b t → b ≡ 1 → record_at number t ≡ read_to spans u → new ≡ before ++ numbered number spans ∷ []
    → records_at (count - i) number before s ≡ total → records_at (count - (i + 1)) (number + 1) new u ≡ total
unfolding more_at
records_go_on count i number before new s b t spans u total lt h open_gate read is so_far =
    let now = left_over count i number before s total lt so_far in
    let test : eqb b 1 ≡ true = eq-eqb b 1 open_gate in
    let step = rw read at (rw test at (rw h at now)) in
    ap (λ (l : List NumberedBatch). records_at (count - (i + 1)) (number + 1) l u) is ∙ step

pub records_ended : (count i number : ℕ) (before : List NumberedBatch) (s : Stand) (total : Result (List NumberedBatch × Stand) ℕ)
    → count ≤ i → records_at (count - i) number before s ≡ total → total ≡ Err s.at
unfolding records_at
records_ended count i number before s total le so_far =
    let k : count - i ≡ 0 = omega arith in
    let one : records_at (count - i) number before s ≡ Err s.at = rw k refl in
    sym so_far ∙ one

-- a reader's place, by its parts
pub place_is : (t : Stand) (bytes : List ℕ) (at : ℕ) → t.whole ≡ bytes → at ≡ t.at → t ≡ record { whole = bytes; at = at }
place_is t bytes at whole is = ap (λ (w : List ℕ). record { whole = w; at = t.at }) whole ∙ ap (λ (k : ℕ). record { whole = bytes; at = k }) (sym is)

pub read_there : (b : ℕ) (s t : Stand) (bytes : List ℕ) (at : ℕ) → in_part false byte_at s ≡ read_to b t → t.whole ≡ bytes → at ≡ t.at → in_part false byte_at s ≡ read_to b (record { whole = bytes; at = at })
read_there b s t bytes at read whole is = read ∙ ap (λ (u : Stand). read_to b u) (place_is t bytes at whole is)
