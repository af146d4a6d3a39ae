-- Tokens put one after another.
use Rattle.std.proofs.Common.{◌≡◌, ℕ, ◌-◌, ◌<◌, ◌≤◌, length, get_or, take, drop, arith, Bool, true, false, if◌then◌else◌, List, [], ◌∷◌, ◌++◌, refl, ap, sym, ◌∙◌, append_assoc, append-nil}
use Rattle.std.specs.List.{flat_map}
use Rattle.std.proofs.lemmas.List.Concat.{flat_map-cons}
use Rattle.std.proofs.lemmas.List.Sums.{fold-append}
use Rattle.std.proofs.lemmas.Grind.{flat_map-append}
use Rattle.std.proofs.lemmas.List.{take_all}
use Rattle.traceql_tokens.specs.declared.fixed.Sign.TheVariants as sign
use Rattle.traceql_tokens.specs.declared.kinds.TokenKind.{TokenKind}
use Rattle.traceql_tokens.specs.declared.kinds.TokenKind.TheVariants as token
use Rattle.traceql_tokens.specs.declared.fixed.Word.{Word}
use Rattle.traceql_syntax.specs.declared.field.Field.{Field}
use Rattle.traceql_syntax.specs.declared.field.Field.TheVariants as field
use Rattle.traceql_print.specs.Signs.{field_kind}
use Rattle.traceql_print.specs.Kinds.{in_parens, operand, call, signed, fields_kinds, more_fields_kinds}
use Rattle.traceql_print.specs.Text.{text_from, text_of, kind_text, gap, opens, closes}
use Rattle.traceql_print.specs.Printer.{Printer, spaced, put, put_all, blank}

pub put_none : (s : Printer) → put_all s [] ≡ s
unfolding put_all
put_none s = refl

pub put_more : (s : Printer) (k : TokenKind) (ks : List TokenKind) → put_all s (k ∷ ks) ≡ put_all (put s k) ks
unfolding put_all
put_more s k ks = refl

pub put_append : (s : Printer) (xs ys : List TokenKind) → put_all s (xs ++ ys) ≡ put_all (put_all s xs) ys
unfolding put_all
put_append s xs ys = fold-append put s xs ys

pub put_one : (s : Printer) (k : TokenKind) → put s k ≡ put_all s (k ∷ [])
put_one s k = sym (put_more s k [] ∙ put_none (put s k))

-- a token after what stands before it
pub put_is : (s t : Printer) (before text : List ℕ) (tight : Bool) (k : TokenKind) → record { text = before; tight = tight } ≡ t → t ≡ spaced s (closes k) → text ≡ before ++ kind_text k → record { text = text; tight = opens k } ≡ put s k
unfolding put
put_is s t before text tight k seen e f =
    let whole : text ≡ s.text ++ (gap s.tight (closes k) ++ kind_text k) = f ∙ ap (λ (x : Printer). x.text ++ kind_text k) (seen ∙ e) ∙ append_assoc s.text (gap s.tight (closes k)) (kind_text k) in
    ap (λ x. record { text = x; tight = opens k }) whole

-- a token and what stands after it
pub put_before : (s t u : Printer) (k : TokenKind) (ks : List TokenKind) → t ≡ put s k → u ≡ put_all t ks → u ≡ put_all s (k ∷ ks)
put_before s t u k ks e f = f ∙ ap (λ x. put_all x ks) e ∙ sym (put_more s k ks)

-- the steps of a part between two tokens
pub put_between : (s t u v : Printer) (k l : TokenKind) (ks : List TokenKind) → t ≡ put s k → u ≡ put_all t ks → v ≡ put u l → v ≡ put_all s (k ∷ (ks ++ l ∷ []))
put_between s t u v k l ks e f g =
    g ∙ ap (λ x. put x l) (f ∙ ap (λ x. put_all x ks) e) ∙ put_one _ l ∙ sym (put_append (put s k) ks (l ∷ [])) ∙ sym (put_more s k (ks ++ l ∷ []))

-- the steps of two parts and a token between them
pub put_around : (s t u v : Printer) (k : TokenKind) (xs ys : List TokenKind) → t ≡ put_all s xs → u ≡ put t k → v ≡ put_all u ys → v ≡ put_all s (xs ++ (k ∷ ys))
put_around s t u v k xs ys e f g =
    g ∙ ap (λ x. put_all x ys) (f ∙ ap (λ x. put x k) e) ∙ sym (put_more (put_all s xs) k ys) ∙ sym (put_append s xs (k ∷ ys))

-- the list of one element alone
pub flat_map-single : {X A : Type 0} (f : X → List A) (x : X) → flat_map f (x ∷ []) ≡ f x
flat_map-single f x = flat_map-cons f x [] ∙ append-nil (f x)

text_more : (s : Printer) (ks : List TokenKind) → (put_all s ks).text ≡ s.text ++ text_from s.tight ks
unfolding put_all put text_from
text_more s [] = sym (append-nil s.text)
text_more s (k ∷ ks) =
    text_more (put s k) ks ∙ append_assoc s.text (gap s.tight (closes k) ++ kind_text k) (text_from (opens k) ks) ∙ ap (λ t. s.text ++ t) (append_assoc (gap s.tight (closes k)) (kind_text k) (text_from (opens k) ks))

-- the text of all tokens on a blank printer
pub text_blank : (ks : List TokenKind) → (put_all blank ks).text ≡ text_of ks
text_blank ks = text_more blank ks

-- the steps of a word and of what stands in parentheses after it
pub put_call : (s t u v w : Printer) (x : Word) (ks : List TokenKind) → t ≡ put s (token.Keyword x) → u ≡ put t (token.Mark sign.OpenParen) → v ≡ put_all u ks → w ≡ put v (token.Mark sign.CloseParen) → w ≡ put_all s (call x ks)
put_call s t u v w x ks e f g h = put_before s t w (token.Keyword x) (in_parens ks) e (put_between t u v w (token.Mark sign.OpenParen) (token.Mark sign.CloseParen) ks f g h)

-- the steps of an operand in parentheses
pub put_operand_parens : (s t u v : Printer) (b : Bool) (ks : List TokenKind) → b ≡ true → t ≡ put s (token.Mark sign.OpenParen) → u ≡ put_all t ks → v ≡ put u (token.Mark sign.CloseParen) → v ≡ put_all s (operand b ks)
put_operand_parens s t u v b ks e f g h =
    put_between s t u v (token.Mark sign.OpenParen) (token.Mark sign.CloseParen) ks f g h ∙ ap (λ x. put_all s (operand x ks)) (sym e)

-- one part more of a list of parts
pub put_part : {X : Type 0} (f : X → List TokenKind) (s t u : Printer) (k : TokenKind) (xs : List X) (x : X) → (ks : List TokenKind) → f x ≡ k ∷ ks → t ≡ put (put_all s (flat_map f xs)) k → u ≡ put_all t ks → u ≡ put_all s (flat_map f (xs ++ x ∷ []))
put_part f s t u k xs x ks is e g =
    put_before (put_all s (flat_map f xs)) t u k ks e g ∙ ap (put_all (put_all s (flat_map f xs))) (sym is ∙ sym (flat_map-single f x)) ∙ sym (put_append s (flat_map f xs) (flat_map f (x ∷ []))) ∙ ap (put_all s) (sym (flat_map-append f xs (x ∷ [])))

-- the steps of a minus, where there is one, and of what stands after it
pub put_signed : (s t u : Printer) (negative : Bool) (k : TokenKind) → t ≡ (if negative then put_all s (token.Mark sign.Minus ∷ []) else s) → u ≡ put t k → u ≡ put_all s (signed negative k)
put_signed s t u true k e f = put_before s t u (token.Mark sign.Minus) (k ∷ []) (e ∙ sym (put_one s (token.Mark sign.Minus))) (f ∙ put_one t k)
put_signed s t u false k e f = f ∙ ap (λ x. put x k) e ∙ put_one s k

-- a field's token neither opens nor closes
pub field_opens : (f : Field) → opens (field_kind f) ≡ false
field_opens (field.Attribute scope name) = refl
field_opens (field.Intrinsic i) = refl

pub field_closes : (f : Field) → closes (field_kind f) ≡ false
field_closes (field.Attribute scope name) = refl
field_closes (field.Intrinsic i) = refl

-- the steps of two parts
pub put_both : (s t u : Printer) (xs ys : List TokenKind) → t ≡ put_all s xs → u ≡ put_all t ys → u ≡ put_all s (xs ++ ys)
put_both s t u xs ys e f = f ∙ ap (λ x. put_all x ys) e ∙ sym (put_append s xs ys)

pub no_fields : (fs : List Field) → length fs < 1 → fields_kinds fs ≡ []
no_fields [] h = refl
no_fields (f ∷ fs) h = absurd (omega arith)

-- the first field, and the ones after it
pub some_fields : (fs : List Field) (f : Field) → 1 ≤ length fs → f ≡ get_or fs 0 f → field_kind f ∷ more_fields_kinds (take (length fs - 1) (drop 1 fs)) ≡ fields_kinds fs
some_fields [] f h e = absurd (omega arith)
some_fields (g ∷ gs) f h e =
    let whole : length (g ∷ gs) - 1 ≡ length gs = omega arith in
    ap (λ x. field_kind x ∷ more_fields_kinds (take (length (g ∷ gs) - 1) gs)) e ∙ ap (λ n. field_kind g ∷ more_fields_kinds (take n gs)) whole ∙ ap (λ xs. field_kind g ∷ more_fields_kinds xs) (take_all (length gs) gs (omega arith))
