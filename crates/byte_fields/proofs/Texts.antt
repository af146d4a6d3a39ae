-- A text is its length and its bytes.
use Rattle.std.proofs.Common.{◌≡◌, ℕ, false, List, Ok, Err, refl}
use Rattle.std.specs.Str.{IsUtf8, is_utf8}
use Rattle.std.proofs.lemmas.Bool.{false_from_ne_true}
use Rattle.std.proofs.lemmas.Str.{IsUtf8-from_is_utf8, is_utf8-from_IsUtf8}
use Rattle.byte_fields.specs.declared.error.FieldError.{FieldError}
use Rattle.byte_fields.specs.declared.error.FieldError.TheVariants.{NotText}
use Rattle.byte_fields.specs.Reading.{Stand, var_at, raw_at, text_at}

pub text_at-text : (s t u : Stand) (n : ℕ) (field : List ℕ) → var_at s ≡ Ok (n, t) → raw_at n t ≡ Ok (field, u) → IsUtf8 field → text_at s ≡ Ok (field, u)
unfolding text_at
text_at-text s t u n field length bytes is = rw (length, bytes, is_utf8-from_IsUtf8 field is) refl

pub text_at-other : (s t u : Stand) (n : ℕ) (field : List ℕ) → var_at s ≡ Ok (n, t) → raw_at n t ≡ Ok (field, u) → (IsUtf8 field → ⊥) → text_at s ≡ Err (NotText s.at)
unfolding text_at
text_at-other s t u n field length bytes other =
    let test : is_utf8 field ≡ false = false_from_ne_true (is_utf8 field) (λ h. other (IsUtf8-from_is_utf8 field h)) in
    rw (length, bytes, test) refl

pub text_at-no_length : (s : Stand) (e : FieldError) → var_at s ≡ Err e → text_at s ≡ Err e
unfolding text_at
text_at-no_length s e is = rw is refl

pub text_at-cut : (s t : Stand) (n : ℕ) (e : FieldError) → var_at s ≡ Ok (n, t) → raw_at n t ≡ Err e → text_at s ≡ Err e
unfolding text_at
text_at-cut s t n e length is = rw (length, is) refl
