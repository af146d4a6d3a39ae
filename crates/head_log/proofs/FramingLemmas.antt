-- The bytes of a prepared record.
use Rattle.std.proofs.Common.{◌≡◌, ℕ, ◌+◌, ◌-◌, ◌<◌, ◌^◌, List, [], ◌∷◌, ◌++◌, length, get_or, set, take, drop, append_assoc, refl, sym, ap, ◌∙◌, arith}
use Rattle.std.proofs.lemmas.List.{take_all, take_at, take_more, drop_at, drop_more, set_at, length-append, length-take-le}
use Rattle.byte_fields.specs.Spelling.{fixed64_bytes}
use Rattle.head_log.specs.Records.{framed}
use Rattle.head_log.specs.Framing.{body_of, IsFramed}

-- the first bytes of a list are written anew, one after the other
pub overlaid : (front items now : List ℕ) (i b : ℕ) → i < length front → i < length items → b ≡ get_or front i 0 → now ≡ take i front ++ drop i items → set now i b ≡ take (i + 1) front ++ drop (i + 1) items
overlaid front items now i b within room is so_far =
    let at : length (take i front) ≡ i = length-take-le i front (omega arith) in
    let cells : now ≡ take i front ++ get_or items i 0 ∷ drop (i + 1) items = so_far ∙ ap (λ (r : List ℕ). take i front ++ r) (drop_more items i 0 room) in
    let front_more : take (i + 1) front ≡ take i front ++ get_or front i 0 ∷ [] = take_more front i 0 within in
    ap (λ (l : List ℕ). set l i b) cells
    ∙ set_at (take i front) (get_or items i 0) (drop (i + 1) items) b i at
    ∙ ap (λ (x : ℕ). take i front ++ x ∷ drop (i + 1) items) is
    ∙ sym (append_assoc (take i front) (get_or front i 0 ∷ []) (drop (i + 1) items))
    ∙ ap (λ (l : List ℕ). l ++ drop (i + 1) items) (sym front_more)

pub all_laid : (front items : List ℕ) (i : ℕ) → length front ≡ i → take i front ++ drop i items ≡ front ++ drop i items
all_laid front items i all = ap (λ (l : List ℕ). l ++ drop i items) (take_all i front (omega arith))

length-fixed64 : (n : ℕ) → length (fixed64_bytes n) ≡ 8
length-fixed64 n = refl

pub body_of-framed : (body : List ℕ) → body_of (framed body) ≡ body
unfolding framed
body_of-framed body =
    let head = fixed64_bytes (length body) in
    let long : length (head ++ body ++ 0 ∷ []) - 1 ≡ length (head ++ body) = omega (arith, length-append (head ++ body) (0 ∷ [])) in
    ap (λ (k : ℕ). drop 8 (take k (head ++ body ++ 0 ∷ []))) long
    ∙ ap (drop 8) (take_at (head ++ body) (0 ∷ []) (length (head ++ body)) refl)
    ∙ drop_at head body 8 refl

-- once the length stands before the body
pub is_framed : (body bytes text : List ℕ) → bytes ≡ ([] ++ fixed64_bytes 0) ++ body ++ 0 ∷ [] → text ≡ fixed64_bytes (length bytes - 9) ++ drop 8 bytes → text ≡ framed body
unfolding framed
is_framed body bytes text was now =
    let zeros = fixed64_bytes 0 in
    let size : length bytes ≡ 8 + length body + 1 = ap length was ∙ length-append (zeros ++ body) (0 ∷ []) ∙ (omega (arith, length-append zeros body)) in
    let len : length bytes - 9 ≡ length body = omega arith in
    let rest : drop 8 bytes ≡ body ++ 0 ∷ [] = ap (drop 8) was ∙ ap (drop 8) (append_assoc zeros body (0 ∷ [])) ∙ drop_at zeros (body ++ 0 ∷ []) 8 refl in
    now ∙ ap (λ (k : ℕ). fixed64_bytes k ++ drop 8 bytes) len ∙ ap (λ (r : List ℕ). fixed64_bytes (length body) ++ r) rest ∙ sym (append_assoc (fixed64_bytes (length body)) body (0 ∷ []))

pub body_is : (body text : List ℕ) → text ≡ framed body → body_of text ≡ body
body_is body text e = ap body_of e ∙ body_of-framed body

pub IsFramed-of : (body text : List ℕ) → text ≡ framed body → length text < 2 ^ 64 → IsFramed text
unfolding framed
IsFramed-of body text e short = record {
  parts = e ∙ ap framed (sym (body_is body text e));
  short = (let same : length (body_of text) ≡ length body = ap length (body_is body text e) in
      let size : length text ≡ 8 + length body + 1 = ap length e ∙ length-append (fixed64_bytes (length body) ++ body) (0 ∷ []) ∙ (omega (arith, length-append (fixed64_bytes (length body)) body)) in
      omega arith);
}
