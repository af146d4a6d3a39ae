-- Lines that are UTF-8, and lines that aren't.
use Rattle.std.proofs.Common.{◌≡◌, ◌≤◌, ℕ, Bool, true, false, List, Option, Err, codes, length, refl, sym, ap, subst}
use Rattle.std.specs.Prelude.{nat_le}
use Rattle.std.specs.Str.{bytes_eq, is_utf8, IsUtf8}
use Rattle.std.proofs.lemmas.Bool.{le-leb}
use Rattle.std.proofs.lemmas.Slice.Eq.{bytes_eq-Decides}
use Rattle.std.proofs.lemmas.Str.{IsUtf8-from_is_utf8, is_utf8-from_IsUtf8}
use Rattle.io_edges.specs.Lines.{line_limit}
use Rattle.session_text.specs.declared.refusal.Refusal.TheVariants.{BadRequest}
use Rattle.session_text.specs.Lines.{first_part, other_parts}
use Rattle.session_text.specs.Requests.{line_of, other_line, plain}

no_text : (bytes : List ℕ) → (IsUtf8 bytes → ⊥) → is_utf8 bytes ≡ false
no_text bytes h = go (is_utf8 bytes) refl
  where
    go : (b : Bool) → is_utf8 bytes ≡ b → b ≡ false
    go true is = absurd (h (IsUtf8-from_is_utf8 bytes is))
    go false is = refl

-- what a line is that isn't too long and no push, where it is the text
pub of_text : (moment : ℕ) (line text : List ℕ) → length line ≤ line_limit → bytes_eq (first_part line) (codes "push") ≡ false → (text ≡ line) × IsUtf8 line
    → line_of moment line ≡ other_line moment (first_part text) text (other_parts text)
unfolding line_of
of_text moment line text short other is =
    let fits : nat_le (length line) line_limit ≡ true = le-leb (length line) line_limit short in
    rw (fits, other, is_utf8-from_IsUtf8 line is.1) (ap (λ (l : List ℕ). other_line moment (first_part l) l (other_parts l)) (sym is.0))

-- the same where it is no text
pub of_bytes : (moment : ℕ) (line : List ℕ) → length line ≤ line_limit → bytes_eq (first_part line) (codes "push") ≡ false → (IsUtf8 line → ⊥) → line_of moment line ≡ plain (Err (BadRequest 0))
unfolding line_of
of_bytes moment line short other not =
    let fits : nat_le (length line) line_limit ≡ true = le-leb (length line) line_limit short in
    rw (fits, other, no_text line not) refl

no_word : (word text : List ℕ) → (word ≡ text → ⊥) → bytes_eq word text ≡ false
no_word word text not = go (bytes_eq word text) refl
  where
    go : (b : Bool) → bytes_eq word text ≡ b → b ≡ false
    go true is = absurd (not ((bytes_eq-Decides word text).0 is))
    go false is = refl

-- what a line is whose first part is no word of a request
pub of_other : (moment : ℕ) (line word first : List ℕ) (rest : Option (List ℕ)) → word ≡ first → (word ≡ codes "trace" → ⊥) → (word ≡ codes "search" → ⊥) → (word ≡ codes "metrics" → ⊥) → (word ≡ codes "cut" → ⊥)
    → (word ≡ codes "cutall" → ⊥) → (word ≡ codes "flush" → ⊥) → (word ≡ codes "compact" → ⊥)
    → (word ≡ codes "reclaim" → ⊥) → other_line moment first line rest ≡ plain (Err (BadRequest 0))
of_other moment line word first rest is no_trace no_search no_metrics no_cut no_cut_all no_flush no_compact no_reclaim =
    subst (λ (w : List ℕ). other_line moment w line rest ≡ plain (Err (BadRequest 0))) is
    (rw (
      no_word word (codes "trace") no_trace,
      no_word word (codes "search") no_search,
      no_word word (codes "metrics") no_metrics,
      no_word word (codes "cut") no_cut,
      no_word word (codes "cutall") no_cut_all,
      no_word word (codes "flush") no_flush,
      no_word word (codes "compact") no_compact,
      no_word word (codes "reclaim") no_reclaim,
    ) refl)
