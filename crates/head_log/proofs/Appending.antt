-- What the two writes of an append make of a segment's bytes.
use Rattle.std.proofs.Common.{◌≡◌, ℕ, ◌+◌, ◌-◌, ◌<◌, ◌≤◌, max, List, [], ◌∷◌, ◌++◌, length, get_or, take, drop, set, append_assoc, Result, Ok, Err, refl, sym, ap, subst, ◌∙◌, arith, inl, inr, ◌⊎◌}
use Rattle.std.specs.Prelude.{OnOk}
use Rattle.std.specs.List.{AllByRecursion}
use Rattle.std.proofs.lemmas.Bool.{cases_eq, cases_lt}
use Rattle.std.proofs.lemmas.List.{append-nil, take-append-drop, take_at, drop_at, length-append, length-take-le, length-set, get_or-take, get_or-set_same, get_or-set_other, set_at, ext_get_or, flat_map_more}
use Rattle.byte_fields.specs.Spelling.{fixed64_bytes}
use Rattle.disk_model.specs.Bytes.{overwritten, reach, Torn}
use Rattle.head_log.specs.Records.{record_bytes, written, IsShort, HasBodies, framed, SegmentIsEither}

-- ---- bytes that a write leaves alone

front_same : (at : ℕ) (old new : List ℕ) → at ≤ length old → length old ≤ length new → ((place : ℕ) → place < at → get_or new place 0 ≡ get_or old place 0) → take at new ≡ take at old
front_same at old new within longer same =
    let a : length (take at new) ≡ at = length-take-le at new (omega arith) in
    let b : length (take at old) ≡ at = length-take-le at old within in
    ext_get_or 0 (take at new) (take at old) (a ∙ sym b) (λ i lt.
    let below : i < at = omega arith in
    get_or-take at new i 0 below ∙ same i below ∙ sym (get_or-take at old i 0 below))

pub overwritten_within : (old : List ℕ) (at : ℕ) (text : List ℕ) → at ≤ length old → overwritten old at text ≡ take at old ++ (text ++ drop (at + length text) old)
overwritten_within old at [] within =
    let none : at + 0 ≡ at = omega arith in
    rw none (sym (take-append-drop at old))
overwritten_within old at (b ∷ text) within =
    let none : at - length old ≡ 0 = omega arith in
    rw (none, append-nil old) (append_assoc (take at old) (b ∷ text) (drop (at + length (b ∷ text)) old))

-- ---- the body with the next gate

-- the bytes up to the gate, and it
front_of : (front : List ℕ) (shut : ℕ) (rest : List ℕ) → take (length front + 1) (front ++ shut ∷ rest) ≡ front ++ shut ∷ []
front_of front shut rest =
    let group : front ++ shut ∷ rest ≡ (front ++ shut ∷ []) ++ rest = sym (append_assoc front (shut ∷ []) rest) in
    ap (take (length front + 1)) group ∙ take_at (front ++ shut ∷ []) rest (length front + 1) (length-append front (shut ∷ []))

pub body_torn : (bodies : List (List ℕ)) (gate n : ℕ) (known bytes : List ℕ) → HasBodies bodies gate known → Torn (gate + 1) n known bytes → HasBodies bodies gate bytes
body_torn bodies gate n known bytes h torn =
    let len : length known ≡ length (written bodies) + (length h.rest + 1) = ap length h.parts ∙ length-append (written bodies) (h.shut ∷ h.rest) ∙ (omega arith) in
    let within : gate + 1 ≤ length known = omega (arith, len, h.place) in
    let front : take (gate + 1) bytes ≡ take (gate + 1) known = front_same (gate + 1) known bytes within torn.no_shorter (λ place below. torn.same place (omega arith) (inl below)) in
    let known_front : take (gate + 1) known ≡ written bodies ++ h.shut ∷ [] =
    ap (λ (k : ℕ). take (k + 1) known) h.place ∙ ap (take (length (written bodies) + 1)) h.parts ∙ front_of (written bodies) h.shut h.rest in
    let whole : bytes ≡ written bodies ++ h.shut ∷ drop (gate + 1) bytes =
    sym (take-append-drop (gate + 1) bytes) ∙ ap (λ (f : List ℕ). f ++ drop (gate + 1) bytes) (front ∙ known_front) ∙ append_assoc (written bodies) (h.shut ∷ []) (drop (gate + 1) bytes) in
    record { shut = h.shut; rest = drop (gate + 1) bytes; closed = h.closed; parts = whole; place = h.place; short = h.short }

-- the segment's bytes once the body is written
pub with_body : (bodies : List (List ℕ)) (gate : ℕ) (known text : List ℕ) (h : HasBodies bodies gate known)
    → overwritten known (gate + 1) text ≡ written bodies ++ h.shut ∷ (text ++ drop (gate + 1 + length text) known)
with_body bodies gate known text h =
    let len : length known ≡ length (written bodies) + (length h.rest + 1) = ap length h.parts ∙ length-append (written bodies) (h.shut ∷ h.rest) ∙ (omega arith) in
    let within : gate + 1 ≤ length known = omega (arith, len, h.place) in
    let known_front : take (gate + 1) known ≡ written bodies ++ h.shut ∷ [] =
    ap (λ (k : ℕ). take (k + 1) known) h.place ∙ ap (take (length (written bodies) + 1)) h.parts ∙ front_of (written bodies) h.shut h.rest in
    overwritten_within known (gate + 1) text within ∙ ap (λ (f : List ℕ). f ++ (text ++ drop (gate + 1 + length text) known)) known_front ∙ append_assoc (written bodies) (h.shut ∷ []) (text ++ drop (gate + 1 + length text) known)

-- ---- the gate

outside : (i n : ℕ) → (i ≡ n → ⊥) → (i < n) ⊎ (n + 1 ≤ i)
outside i n differs = elim (cases_lt i n) [ inl lt ↦ inl lt | inr le ↦ inr (omega arith) ]

-- one byte was written, and a crash may have left any byte there
one_torn : (front : List ℕ) (shut : ℕ) (rest bytes : List ℕ) → Torn (length front) 1 (front ++ shut ∷ rest) bytes → (b : ℕ) × (bytes ≡ front ++ b ∷ rest)
one_torn front shut rest bytes torn =
    let old = front ++ shut ∷ rest in
    let len : length old ≡ length front + (length rest + 1) = length-append front (shut ∷ rest) ∙ (omega arith) in
    let longer : length old ≤ length bytes = torn.no_shorter in
    let end : reach (length front) 1 ≡ length front + 1 = refl in
    let shorter : length bytes ≤ max (length old) (length front + 1) = torn.no_longer in
    let same_len : length bytes ≡ length old = omega arith in
    let b = get_or bytes (length front) 0 in
    let is : bytes ≡ set old (length front) b = ext_get_or 0 bytes (set old (length front) b) (same_len ∙ sym (length-set old (length front) b)) (λ i lt.
    elim (cases_eq i (length front)) [
      | inl here ↦ ap (λ (k : ℕ). get_or bytes k 0) here ∙ sym (ap (λ (k : ℕ). get_or (set old (length front) b) k 0) here ∙ get_or-set_same old (length front) b 0 (omega (arith, len)))
      | inr differs ↦ torn.same i (omega arith) (outside i (length front) differs) ∙ sym (get_or-set_other old (length front) i b 0 differs)
    ]) in
    (b, is ∙ set_at front shut rest b (length front) refl)

-- a segment with one record more
written_more : (bodies : List (List ℕ)) (body : List ℕ) → written (bodies ++ body ∷ []) ≡ written bodies ++ record_bytes body
written_more bodies body = sym (flat_map_more record_bytes (1 ∷ []) bodies body)

opened : (bodies : List (List ℕ)) (body tail : List ℕ) → written bodies ++ 1 ∷ (framed body ++ tail) ≡ written (bodies ++ body ∷ []) ++ 0 ∷ tail
unfolding framed record_bytes
opened bodies body tail =
    let text = fixed64_bytes (length body) ++ body in
    let regroup : framed body ++ tail ≡ text ++ 0 ∷ tail = append_assoc text (0 ∷ []) tail in
    ap (λ (r : List ℕ). written bodies ++ 1 ∷ r) regroup ∙ sym (append_assoc (written bodies) (1 ∷ text) (0 ∷ tail)) ∙ ap (λ (w : List ℕ). w ++ 0 ∷ tail) (sym (written_more bodies body))

length-framed : (body : List ℕ) → length (framed body) ≡ length (record_bytes body)
unfolding framed record_bytes
length-framed body =
    let text = fixed64_bytes (length body) ++ body in
    length-append text (0 ∷ []) ∙ (omega arith)

short_more : (bodies : List (List ℕ)) (body : List ℕ) → AllByRecursion IsShort bodies → IsShort body → AllByRecursion IsShort (bodies ++ body ∷ [])
short_more [] body all short = (short, tt)
short_more (b ∷ bodies) body all short = (all.0, short_more bodies body all.1 short)

pub has_more : (bodies : List (List ℕ)) (body tail bytes : List ℕ) (gate : ℕ) → gate ≡ length (written bodies) → AllByRecursion IsShort bodies → IsShort body
    → bytes ≡ written bodies ++ 1 ∷ (framed body ++ tail) → HasBodies (bodies ++ body ∷ []) (gate + length (framed body)) bytes
has_more bodies body tail bytes gate place short fits e = record {
  shut = 0;
  rest = tail;
  closed = λ z. absurd (omega arith);
  parts = e ∙ opened bodies body tail;
  place = (let a = ap length (written_more bodies body) ∙ length-append (written bodies) (record_bytes body) in omega (arith, a, length-framed body, place));
  short = short_more bodies body short fits;
}

-- while the gate is written
pub gate_torn : (bodies : List (List ℕ)) (gate : ℕ) (known body bytes : List ℕ) → HasBodies bodies gate known → IsShort body
    → Torn gate 1 (overwritten known (gate + 1) (framed body)) bytes → SegmentIsEither bodies body bytes
gate_torn bodies gate known body bytes h fits torn =
    let tail = drop (gate + 1 + length (framed body)) known in
    let at = subst (λ (k : ℕ). Torn k 1 (overwritten known (gate + 1) (framed body)) bytes) h.place torn in
    let on = subst (λ (w : List ℕ). Torn (length (written bodies)) 1 w bytes) (with_body bodies gate known (framed body) h) at in
    let found = one_torn (written bodies) h.shut (framed body ++ tail) bytes on in
    elim (cases_eq found.0 1) [
      | inl open_gate ↦ inr (gate + length (framed body), has_more bodies body tail bytes gate h.place h.short fits (found.1 ∙ ap (λ (b : ℕ). written bodies ++ b ∷ (framed body ++ tail)) open_gate))
      | inr closed ↦ inl (gate, record { shut = found.0; rest = framed body ++ tail; closed = closed; parts = found.1; place = h.place; short = h.short })
    ]

-- once the gate is open
pub gate_opened : (bodies : List (List ℕ)) (gate : ℕ) (known body : List ℕ) → HasBodies bodies gate known → IsShort body
    → HasBodies (bodies ++ body ∷ []) (gate + length (framed body)) (overwritten (overwritten known (gate + 1) (framed body)) gate (1 ∷ []))
gate_opened bodies gate known body h fits =
    let tail = drop (gate + 1 + length (framed body)) known in
    let middle = with_body bodies gate known (framed body) h in
    let front = written bodies in
    let rest = framed body ++ tail in
    let len : length (front ++ h.shut ∷ rest) ≡ length front + (length rest + 1) = length-append front (h.shut ∷ rest) ∙ (omega arith) in
    let over = overwritten_within (front ++ h.shut ∷ rest) (length front) (1 ∷ []) (omega (arith, len)) in
    let before : take (length front) (front ++ h.shut ∷ rest) ≡ front = take_at front (h.shut ∷ rest) (length front) refl in
    let group : front ++ h.shut ∷ rest ≡ (front ++ h.shut ∷ []) ++ rest = sym (append_assoc front (h.shut ∷ []) rest) in
    let behind : drop (length front + 1) (front ++ h.shut ∷ rest) ≡ rest = ap (drop (length front + 1)) group ∙ drop_at (front ++ h.shut ∷ []) rest (length front + 1) (length-append front (h.shut ∷ [])) in
    let whole : overwritten (overwritten known (gate + 1) (framed body)) gate (1 ∷ []) ≡ front ++ 1 ∷ rest =
    ap (λ (w : List ℕ). overwritten w gate (1 ∷ [])) middle ∙ ap (λ (k : ℕ). overwritten (front ++ h.shut ∷ rest) k (1 ∷ [])) h.place ∙ over
    ∙ ap (λ (f : List ℕ). f ++ (1 ∷ drop (length front + 1) (front ++ h.shut ∷ rest))) before ∙ ap (λ (r : List ℕ). front ++ 1 ∷ r) behind in
    has_more bodies body tail _ gate h.place h.short fits whole

-- while the body is written
pub earlier : (bodies : List (List ℕ)) (body : List ℕ) (gate n : ℕ) (known bytes : List ℕ) → HasBodies bodies gate known → Torn (gate + 1) n known bytes → SegmentIsEither bodies body bytes
earlier bodies body gate n known bytes h torn = inl (gate, body_torn bodies gate n known bytes h torn)

pub on_ok_both : {T E : Type 0} (r : Result T E) (A B C : Type 0) → OnOk r A → OnOk r B → (A → B → C) → OnOk r C
on_ok_both (Ok x) A B C a b join = join a b
on_ok_both (Err e) A B C a b join = tt

-- the length, the body and the next gate
pub framed_size : (body : List ℕ) → length (framed body) ≡ 9 + length body
unfolding framed
framed_size body =
    let text = fixed64_bytes (length body) ++ body in
    omega (arith, length-append text (0 ∷ []), length-append (fixed64_bytes (length body)) body)
