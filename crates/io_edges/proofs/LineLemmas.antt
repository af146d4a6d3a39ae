-- The lines of a text, piece by piece.
use Rattle.std.proofs.Common.{◌≡◌, ◌≢◌, ℕ, suc, ◌+◌, ◌<◌, false, List, [], ◌∷◌, ◌++◌, length, get_or, take, drop, map, refl, sym, ap, ◌∙◌, arith, length-take, eqb, cond}
use Rattle.std.proofs.lemmas.List.{take-append-drop, drop_more, get_or-take}
use Rattle.std.proofs.lemmas.Bool.Decides.{nat_tests}
use Rattle.io_edges.specs.Lines.{pieces, lines, with_first, without_return}
use Rattle.io_edges.specs.Reader.{HasNoFeed}

pub HasNoFeed-from_index : (bytes : List ℕ) → ((k : ℕ) → k < length bytes → get_or bytes k 0 ≢ 10) → HasNoFeed bytes
HasNoFeed-from_index [] none = tt
HasNoFeed-from_index (byte ∷ bytes) none =
    (none 0 (omega arith), HasNoFeed-from_index bytes (λ k within. none (suc k) (omega arith)))

pub HasNoFeed-take : (bytes : List ℕ) (count : ℕ) → ((k : ℕ) → k < count → get_or bytes k 0 ≢ 10) → HasNoFeed (take count bytes)
HasNoFeed-take bytes count none =
    HasNoFeed-from_index (take count bytes) (λ k within.
    let below : k < count = omega (arith, length-take count bytes) in
    rw (get_or-take count bytes k 0 below) (none k below))

pub HasNoFeed-append : (xs ys : List ℕ) → HasNoFeed xs → HasNoFeed ys → HasNoFeed (xs ++ ys)
HasNoFeed-append [] ys p q = q
HasNoFeed-append (x ∷ xs) ys p q = (p.0, HasNoFeed-append xs ys p.1 q)

-- The bytes round a line feed.
pub split_at_feed : (bytes : List ℕ) (at : ℕ) → at < length bytes → get_or bytes at 0 ≡ 10 → bytes ≡ take at bytes ++ 10 ∷ drop (at + 1) bytes
split_at_feed bytes at within feed =
    sym (take-append-drop at bytes)
    ∙ ap (λ l. take at bytes ++ l) (drop_more bytes at 0 within ∙ ap (λ b. b ∷ drop (at + 1) bytes) feed)

-- One byte more at the front of a text, that is no line feed.
pub pieces-cons : (byte : ℕ) (text : List ℕ) → (byte ≡ 10 → ⊥) → pieces (byte ∷ text) ≡ with_first byte (pieces text)
pieces-cons byte text other =
    let test : eqb byte 10 ≡ false = grind (arith, nat_tests) in
    ap (λ b. cond b ([] ∷ pieces text) (with_first byte (pieces text))) test

-- A line feed ends the first piece of a text.
pub pieces-feed : (piece rest : List ℕ) → HasNoFeed piece → pieces (piece ++ 10 ∷ rest) ≡ piece ∷ pieces rest
pieces-feed [] rest p = refl
pieces-feed (byte ∷ piece) rest p =
    pieces-cons byte (piece ++ 10 ∷ rest) p.0 ∙ ap (with_first byte) (pieces-feed piece rest p.1)

-- A text without a line feed is one piece, where it isn't empty.
pub pieces-last : (piece : List ℕ) → HasNoFeed piece → (piece ≡ [] → ⊥) → pieces piece ≡ piece ∷ []
pieces-last [] p some = absurd (some refl)
pieces-last (byte ∷ []) p some = pieces-cons byte [] p.0
pieces-last (byte ∷ next ∷ piece) p some =
    pieces-cons byte (next ∷ piece) p.0 ∙ ap (with_first byte) (pieces-last (next ∷ piece) p.1 (λ e. cc))

-- A line feed ends the first line of a text.
pub lines-feed : (piece rest : List ℕ) → HasNoFeed piece → lines (piece ++ 10 ∷ rest) ≡ without_return piece ∷ lines rest
lines-feed piece rest p = ap (map without_return) (pieces-feed piece rest p)

-- What no line feed ends is the last line of a text.
pub lines-last : (piece : List ℕ) → HasNoFeed piece → (piece ≡ [] → ⊥) → lines piece ≡ without_return piece ∷ lines []
lines-last piece p some = ap (map without_return) (pieces-last piece p some)
