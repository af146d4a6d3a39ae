-- What a segment stands for is read.
use Rattle.std.proofs.Common.{◌≡◌, ℕ, zero, suc, ◌+◌, ◌-◌, ◌<◌, ◌≤◌, true, false, cond, eqb, leb, List, [], ◌∷◌, ◌++◌, length, take, Result, Ok, Err, append_assoc, refl, sym, ap, subst, ◌∙◌, arith}
use Rattle.std.specs.List.{flat_map, AllByRecursion}
use Rattle.std.proofs.lemmas.Bool.{ne_eqb, eq-eqb, le-leb}
use Rattle.std.proofs.lemmas.List.{append-nil, length-append, length-drop, length-take, drop-take, take_at}
use Rattle.span_types.specs.declared.spans.Span.{Span}
use Rattle.byte_fields.specs.Spelling.{fixed64_bytes}
use Rattle.byte_fields.specs.Reading.{Stand, left, ahead, byte_at, fixed64_at}
use Rattle.head_log.specs.declared.numbered.NumberedBatch.{NumberedBatch}
use Rattle.byte_fields.specs.Breaks.{in_part}
use Rattle.head_log.specs.Bodies.{body_bytes}
use Rattle.head_log.specs.Records.{record_bytes, written, IsShort}
use Rattle.head_log.specs.Stands.{IsBatchBody, AreBatchBodies, SegmentHolds}
use Rattle.head_log.specs.Scanning.{body_in, record_at, numbered, more_at, records_at, segment_at}
use Rattle.head_log.specs.Entries.{entries}
use Rattle.byte_fields.specs.Sound.{IsAny, IsBelow64}
use Rattle.byte_fields.specs.Laws.{read_to}
use Rattle.byte_fields.proofs.Again.{seq, one_byte, again_byte, again_fixed64}
use Rattle.head_log.proofs.AgainRuns.{body_again}

-- ---- a body in its part of the file

body_in_again : (number : ℕ) (spans : List Span) (body : List ℕ) (t : Stand) (rest : List ℕ) → t.at ≤ length t.whole → IsBatchBody number spans body → left t ≡ body ++ rest
    → body_in number t.whole t.at (length body) ≡ read_to spans (ahead (length body) t)
unfolding body_in
body_in_again number spans body t rest is of e =
    let len = length body in
    let room : len + length rest ≡ length t.whole - t.at = sym (ap length e ∙ length-append body rest) ∙ length-drop t.at t.whole in
    let inside : leb len (length t.whole - t.at) ≡ true = le-leb _ _ (omega arith) in
    let part : Stand = record { whole = take (t.at + len) t.whole; at = t.at } in
    let fits : t.at + len ≤ length t.whole = omega arith in
    let inside_part : t.at ≤ length (take (t.at + len) t.whole) = omega (arith, length-take (t.at + len) t.whole) in
    let alone : left part ≡ body_bytes number spans ++ [] =
    drop-take t.at len t.whole ∙ ap (take len) e ∙ take_at body rest len refl ∙ of.spelled ∙ sym (append-nil (body_bytes number spans)) in
    let read = body_again true number spans part inside_part [] of.sound alone in
    let size : length (body_bytes number spans) ≡ len = ap length (sym of.spelled) in
    let end : eqb (t.at + length (body_bytes number spans)) (t.at + len) ≡ true = eq-eqb _ _ (omega arith) in
    rw (inside, read, end) refl

record_again : (number : ℕ) (spans : List Span) (body : List ℕ) (s : Stand) → s.at ≤ length s.whole → (rest : List ℕ) → IsBatchBody number spans body → IsShort body
    → left s ≡ (fixed64_bytes (length body) ++ body) ++ rest → record_at number s ≡ read_to spans (ahead (length (fixed64_bytes (length body) ++ body)) s)
unfolding record_at
record_again number spans body s is rest of short e =
    seq (in_part false fixed64_at) fixed64_bytes IsBelow64 _ (again_fixed64 false) s is (length body) body rest spans short e (λ t u f. body_in_again number spans body t rest u of f)

-- ---- records

after_gate : (most number : ℕ) (before : List NumberedBatch) (spans : List Span) (body more : List ℕ) (s : Stand) → s.at ≤ length s.whole → (rest : List ℕ) (y : List NumberedBatch) → IsBatchBody number spans body → IsShort body
    → left s ≡ (record_bytes body ++ more) ++ rest
    → ((t : Stand) → t.at ≤ length t.whole → left t ≡ more ++ rest → records_at most (number + 1) (before ++ numbered number spans ∷ []) t ≡ read_to y (ahead (length more) t))
    → records_at (suc most) number before s ≡ read_to y (ahead (length (record_bytes body ++ more)) s)
unfolding records_at more_at record_bytes
after_gate most number before spans body more s is rest y of short e next =
    let text = fixed64_bytes (length body) ++ body in
    seq (in_part false byte_at) one_byte IsAny (λ gate. cond (eqb gate.0 1) (more_at (records_at most) number before gate.1) (Ok (before, s))) (again_byte false) s is 1 (text ++ more) rest y tt e
    (λ t u f. seq (record_at number) (λ _. text) (λ x. x ≡ spans) (λ x. records_at most (number + 1) (before ++ numbered number x.0 ∷ []) x.1)
    (λ v w x r fits g. record_again number spans body v w r of short g ∙ ap (λ (l : List Span). read_to l (ahead (length text) v)) (sym fits))
    t u spans more rest y refl f next)

records_again : (bodies : List (List ℕ)) (batches : List (List Span)) (most number : ℕ) (before : List NumberedBatch) (s : Stand) → s.at ≤ length s.whole → (shut : ℕ) (rest : List ℕ)
    → AreBatchBodies number batches bodies → AllByRecursion IsShort bodies → (shut ≡ 1 → ⊥) → length bodies < most → left s ≡ flat_map record_bytes bodies ++ shut ∷ rest
    → records_at most number before s ≡ read_to (before ++ entries number batches) (ahead (length (flat_map record_bytes bodies)) s)
unfolding records_at
records_again bodies batches zero number before s is shut rest are short closed few e = absurd (omega arith)
records_again [] [] (suc most) number before s is shut rest are short closed few e =
    let none : s.at + 0 ≡ s.at = omega arith in
    let test : eqb shut 1 ≡ false = ne_eqb shut 1 closed in
    let read = again_byte false s is shut rest tt e in
    rw (read, test, append-nil before, none) refl
records_again [] (b ∷ batches) (suc most) number before s is shut rest are short closed few e = absurd are
records_again (body ∷ bodies) [] (suc most) number before s is shut rest are short closed few e = absurd are
records_again (body ∷ bodies) (b ∷ batches) (suc most) number before s is shut rest are short closed few e =
    after_gate most number before b body (flat_map record_bytes bodies) s is (shut ∷ rest) (before ++ entries number (b ∷ batches)) are.0 short.0 e
    (λ t u f. records_again bodies batches most (number + 1) (before ++ numbered number b ∷ []) t u shut rest are.1 short.1 closed (omega arith) f
    ∙ ap (λ (l : List NumberedBatch). read_to l (ahead (length (flat_map record_bytes bodies)) t)) (append_assoc before (numbered number b ∷ []) (entries (number + 1) batches)))

each_long : (bodies : List (List ℕ)) → length bodies ≤ length (flat_map record_bytes bodies)
unfolding record_bytes
each_long [] = omega arith
each_long (body ∷ bodies) = omega (arith, each_long bodies, length-append (record_bytes body) (flat_map record_bytes bodies))

pub segment_again : (first : ℕ) (batches : List (List Span)) (gate : ℕ) (bytes : List ℕ) → SegmentHolds first batches gate bytes
    → segment_at first bytes ≡ read_to (entries first batches) (record { whole = bytes; at = gate })
unfolding segment_at
segment_again first batches gate bytes stands =
    let h = stands.has in
    let s : Stand = record { whole = bytes; at = 0 } in
    let size : length bytes ≡ length (written stands.bodies) + suc (length h.rest) = ap length h.parts ∙ length-append (written stands.bodies) (h.shut ∷ h.rest) in
    let few : length stands.bodies < length bytes = omega (arith, size, each_long stands.bodies) in
    let whole = seq (in_part false byte_at) one_byte IsAny (λ version. cond (eqb version.0 1) (records_at (length bytes) first [] version.1) (Err 0)) (again_byte false) s (omega arith) 1 (flat_map record_bytes stands.bodies) (h.shut ∷ h.rest) (entries first batches) tt h.parts
    (λ t u f. records_again stands.bodies batches (length bytes) first [] t u h.shut h.rest stands.numbered h.short h.closed few f) in
    let place : 0 + length (written stands.bodies) ≡ gate = omega (arith, h.place) in
    whole ∙ ap (λ (k : ℕ). read_to (entries first batches) (record { whole = bytes; at = k })) place

-- ---- what a scan answers of such bytes

-- what was read, or this
shown : {A : Type 0} → A → Result A ℕ → A
shown other (Ok x) = x
shown other (Err place) = other

-- something was read
WasRead : {A : Type 0} → Result A ℕ → Type 0
WasRead (Ok x) = Unit {0}
WasRead (Err place) = ⊥

pub recalled : (first : ℕ) (bytes all : List ℕ) → bytes ≡ all → (items : List NumberedBatch) (at : ℕ) → segment_at first bytes ≡ read_to items (record { whole = bytes; at = at })
    → (batches : List (List Span)) (gate : ℕ) → SegmentHolds first batches gate all → (items ≡ entries first batches) × (at ≡ gate)
unfolding shown
recalled first bytes all same items at read batches gate stands =
    let is : SegmentHolds first batches gate bytes = subst (SegmentHolds first batches gate) (sym same) stands in
    let one = sym read ∙ segment_again first batches gate bytes is in
    let end : Stand = record { whole = bytes; at = at } in
    let other : List NumberedBatch × Stand = (items, end) in (
      ap (λ (r : Result (List NumberedBatch × Stand) ℕ). (shown other r).0) one,
      ap (λ (r : Result (List NumberedBatch × Stand) ℕ). (shown other r).1.at) one,
    )

pub never_broken : (first : ℕ) (bytes all : List ℕ) → bytes ≡ all → (place : ℕ) → segment_at first bytes ≡ Err place
    → (batches : List (List Span)) (gate : ℕ) → SegmentHolds first batches gate all → ⊥
unfolding WasRead
never_broken first bytes all same place read batches gate stands =
    let is : SegmentHolds first batches gate bytes = subst (SegmentHolds first batches gate) (sym same) stands in
    subst WasRead (sym (segment_again first batches gate bytes is) ∙ read) tt

-- the batches of entries
batches_of : List NumberedBatch → List (List Span)
batches_of [] = []
batches_of (e ∷ es) = e.batch.spans ∷ batches_of es

batches_of-entries : (first : ℕ) (batches : List (List Span)) → batches_of (entries first batches) ≡ batches
unfolding batches_of
batches_of-entries first [] = refl
batches_of-entries first (spans ∷ batches) = ap (λ (l : List (List Span)). spans ∷ l) (batches_of-entries (first + 1) batches)

pub one_list : (first gate other : ℕ) (batches others : List (List Span)) (bytes : List ℕ) → SegmentHolds first batches gate bytes → SegmentHolds first others other bytes
    → (batches ≡ others) × (gate ≡ other)
one_list first gate other batches others bytes one two =
    let same = recalled first bytes bytes refl (entries first others) other (segment_again first others other bytes two) batches gate one in
    (sym (batches_of-entries first batches) ∙ ap batches_of (sym same.0) ∙ batches_of-entries first others, sym same.1)
