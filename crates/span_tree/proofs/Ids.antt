-- Span ids as keys of a map.
use Rattle.std.proofs.Common.{◌≡◌, ◌≢◌, ℕ, Option, true, false, refl, ap, ◌∙◌, cond, ◌⊎◌, inl, inr}
use Rattle.std.specs.declared.cmp.Ordering.{Ordering}
use Rattle.std.specs.declared.cmp.Ordering.TheVariants.{Less, Equal, Greater}
use Rattle.std.specs.Ordering.{is_eq}
use Rattle.std.specs.Cmp.{IsTotalOrder}
use Rattle.std.proofs.lemmas.Map.Lookups.{exact_bytes}
use Rattle.std.proofs.lemmas.Cmp.{on_total, nat_list_cmp_total, tied_itself}
use Rattle.span_types.specs.declared.ids.SpanId.{SpanId}
use Rattle.span_types.specs.Orders.{span_cmp}

span_cmp_total : IsTotalOrder span_cmp
span_cmp_total = on_total (λ s. s.0) nat_list_cmp_total

is_equal : (o : Ordering) → is_eq o ≡ true → o ≡ Equal
is_equal Less h = cc
is_equal Equal h = refl
is_equal Greater h = cc

ids_equal : (a b : SpanId) → is_eq (span_cmp a b) ≡ true → a ≡ b
ids_equal a b h = ap (λ s. record { 0 = s }) (exact_bytes a.0 b.0 (is_equal _ h))

differ : (a b : SpanId) → is_eq (span_cmp a b) ≡ false → a ≢ b
differ a b h e =
    let same : is_eq (span_cmp a a) ≡ true = ap is_eq (tied_itself span_cmp_total a) in
    let other : is_eq (span_cmp a a) ≡ false = ap (λ q. is_eq (span_cmp a q)) e ∙ h in
    cc

-- An id is the other, or isn't.
pub same_or_not : (a b : SpanId) → (a ≡ b) ⊎ (a ≢ b)
same_or_not a b =
    elim (is_eq (span_cmp a b)) as (λ t. is_eq (span_cmp a b) ≡ t → (a ≡ b) ⊎ (a ≢ b)) [
      | true ↦ λ h. inl (ids_equal a b h)
      | false ↦ λ h. inr (differ a b h)
    ] refl

-- A map with a value put at an id keeps what it has at another.
pub other_kept : (old new : SpanId → Option ℕ) (a b : SpanId) (w : Option ℕ) → new b ≡ cond (is_eq (span_cmp a b)) w (old b) → a ≢ b → new b ≡ old b
other_kept old new a b w h ne =
    elim (is_eq (span_cmp a b)) as (λ t. is_eq (span_cmp a b) ≡ t → new b ≡ cond t w (old b) → new b ≡ old b) [
      | true ↦ λ e _. absurd (ne (ids_equal a b e))
      | false ↦ λ _ is. is
    ] refl h
