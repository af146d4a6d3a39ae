-- What the types promise of a batch, as it is written, makes the batch sound.
use Rattle.std.proofs.Common.{◌≡◌, ℕ, ◌<◌, Bool, true, false, List, [], ◌∷◌, ◌++◌, length, get_or, All, append_assoc, refl, sym, ap, subst, ◌∙◌, arith}
use Rattle.std.specs.Bool.{Decides}
use Rattle.std.specs.List.{flat_map, list_any, AllByRecursion}
use Rattle.std.proofs.lemmas.Grind.{flat_map-append}
use Rattle.std.proofs.lemmas.List.Elements.{All-cons, All-nil, recursion_from_All}
use Rattle.span_types.specs.declared.spans.Span.{Span}
use Rattle.span_types.specs.Equal.{same_resource, same_scope}
use Rattle.span_types.specs.EqualLaws.{resource_decides, scope_decides}
use Rattle.span_runs.specs.Runs.{as_run, of_one, runs}
use Rattle.span_runs.proofs.RunLaws.{run_items, all_of, all_of-runs, AreRuns-runs, each_linked, EachLinked, origins_equal}
use Rattle.byte_fields.specs.Sound.{AreSound, IsSoundEvent, IsSoundLink, IsSoundResource, IsSoundScope}
use Rattle.head_log.specs.Bodies.{is_extended, are_extended}
use Rattle.head_log.specs.Sound.{IsSoundSpan}
use Rattle.head_log.specs.Written.{AreSoundExtras, IsSoundAlone, IsSoundRun, AreSoundRuns, AreSoundAlone, AreSoundScopes, AreSoundResources}
use Rattle.head_log.proofs.AgainSpan.{HasForm}
use Rattle.head_log.proofs.MeantSpan.{few_none}
use Rattle.head_log.proofs.RunLaws.{all_join}
use Rattle.head_log.proofs.AgainRuns.{forms}

-- ---- runs, as they are written one after the other

pub one_run : (spans : List Span) → 0 < length spans → length (as_run spans) ≡ 1
one_run [] some = absurd (omega arith)
one_run (s ∷ spans) some = refl

pub run_sound : {O : Type 0} (of : Span → O) (IsSound : O → Type 0) (Content : List Span → Type 0) (spans : List Span) (d : Span) → 0 < length spans
    → IsSound (of (get_or spans 0 d)) → Content spans → All (IsSoundRun of IsSound Content) (as_run spans)
run_sound of IsSound Content [] d some origin content = absurd (omega arith)
run_sound of IsSound Content (s ∷ spans) d some origin content = All-cons (IsSoundRun of IsSound Content) (s, spans) [] (record { origin = origin; content = content }) (All-nil (IsSoundRun of IsSound Content))

-- no span has no run
pub no_runs : (P : Span × List Span → Type 0) (same : Span → Span → Bool) (spans : List Span) → length spans ≡ 0 → All P (runs same spans)
no_runs P same [] none = All-nil P
no_runs P same (s ∷ spans) none = absurd (omega arith)

-- the first run is written, and then those that are left
pub run_written : {A : Type 0} (bytes : A → List ℕ) (all front later : List A) (out now total : List ℕ)
    → total ≡ out ++ flat_map bytes all → all ≡ front ++ later → now ≡ out ++ flat_map bytes front → total ≡ now ++ flat_map bytes later
run_written bytes all front later out now total so_far split is =
    so_far ∙ ap (λ l. out ++ flat_map bytes l) split ∙ ap (λ (l : List ℕ). out ++ l) (flat_map-append bytes front later) ∙ sym (append_assoc out (flat_map bytes front) (flat_map bytes later))
    ∙ ap (λ (l : List ℕ). l ++ flat_map bytes later) (sym is)

-- ---- from runs to their spans

all_of_each : (P : Span → Type 0) (rs : List (Span × List Span)) → AllByRecursion (λ r. AllByRecursion P (run_items r)) rs → AllByRecursion P (all_of rs)
all_of_each P [] h = tt
all_of_each P (r ∷ rs) h = all_join P (run_items r) (all_of rs) h.0 (all_of_each P rs h.1)

-- a sound origin, and what holds of a span but for it
abbrev IsSoundWith : {O : Type 0} → (Span → O) → (O → Type 0) → (Span → Type 0) → Span → Type 0
IsSoundWith of IsSound P span = P span × IsSound (of span)

in_run : {O : Type 0} (of : Span → O) (IsSound : O → Type 0) (P : Span → Type 0) (spans : List Span) (o : O) → IsSound o → AllByRecursion (λ s. of s ≡ o) spans → AllByRecursion P spans
    → AllByRecursion (IsSoundWith of IsSound P) spans
in_run of IsSound P [] o sound are each = tt
in_run of IsSound P (s ∷ spans) o sound are each = ((each.0, subst IsSound (sym are.0) sound), in_run of IsSound P spans o sound are.1 each.1)

from_runs : {O : Type 0} (same : O → O → Bool) (of : Span → O) (IsSound : O → Type 0) (Content : List Span → Type 0) (P : Span → Type 0) → ((a b : O) → Decides (same a b) (a ≡ b))
    → ((spans : List Span) → Content spans → AllByRecursion P spans) → (spans : List Span) → AreSoundRuns same of IsSound Content spans → AllByRecursion (IsSoundWith of IsSound P) spans
from_runs same of IsSound Content P decides content spans sound =
    let rs = runs (of_one same of) spans in
    let each = in_runs rs (recursion_from_All (IsSoundRun of IsSound Content) rs sound) (each_linked (of_one same of) rs (AreRuns-runs (of_one same of) spans)) in
    subst (λ (l : List Span). AllByRecursion (IsSoundWith of IsSound P) l) (all_of-runs (of_one same of) spans) (all_of_each (IsSoundWith of IsSound P) rs each)
  where
    in_runs : (rs : List (Span × List Span)) → AllByRecursion (IsSoundRun of IsSound Content) rs → EachLinked (of_one same of) rs → AllByRecursion (λ r. AllByRecursion (IsSoundWith of IsSound P) (run_items r)) rs
    in_runs [] sound linked = tt
    in_runs (r ∷ rs) sound linked = (
      in_run of IsSound P (run_items r) (of r.0) sound.0.origin (refl, origins_equal same of decides r.0 r.1 linked.0) (content (run_items r) sound.0.content),
      in_runs rs sound.1 linked.1,
    )

-- ---- events and links

-- a span but for events and links that its form lacks
abbrev IsSoundBut : Bool → Span → Type 0
IsSoundBut extended = IsSoundWith (λ s. s.resource) IsSoundResource (IsSoundWith (λ s. s.scope) IsSoundScope (IsSoundAlone extended))

extras_sound : (extended : Bool) (span : Span) → AreSoundExtras extended span → HasForm extended span → AreSound IsSoundEvent span.events × AreSound IsSoundLink span.links
extras_sound true span sound form = sound
extras_sound false span sound form = (few_none IsSoundEvent span.events form.0, few_none IsSoundLink span.links form.1)

whole_sound : (extended : Bool) (span : Span) → IsSoundBut extended span → HasForm extended span → IsSoundSpan span
whole_sound extended span sound form =
    let extras = extras_sound extended span sound.0.0.extras form in
    record {
      trace = sound.0.0.trace;
      id = sound.0.0.id;
      parent = sound.0.0.parent;
      name = sound.0.0.name;
      start = sound.0.0.start;
      ended = sound.0.0.ended;
      message = sound.0.0.message;
      attrs = sound.0.0.attrs;
      resource = sound.1;
      scope = sound.0.1;
      events = extras.0;
      links = extras.1;
    }

each_whole : (extended : Bool) (spans : List Span) → list_any is_extended spans ≡ extended → AllByRecursion (IsSoundBut extended) spans → AllByRecursion IsSoundSpan spans
each_whole extended spans is each = whole_of spans (forms spans extended is) each
  where
    whole_of : (spans : List Span) → AllByRecursion (HasForm extended) spans → AllByRecursion (IsSoundBut extended) spans → AllByRecursion IsSoundSpan spans
    whole_of [] form each = tt
    whole_of (s ∷ spans) form each = (whole_sound extended s each.0 form.0, whole_of spans form.1 each.1)

pub spans_sound : (spans : List Span) → AreSoundResources (are_extended spans) spans → AllByRecursion IsSoundSpan spans
unfolding are_extended
spans_sound spans sound =
    let extended = list_any is_extended spans in
    let in_scope : Span → Type 0 = IsSoundWith (λ s. s.scope) IsSoundScope (IsSoundAlone extended) in
    let scopes = λ (l : List Span) (h : AreSoundScopes extended l). from_runs same_scope (λ s. s.scope) IsSoundScope (AreSoundAlone extended) (IsSoundAlone extended) scope_decides (λ l h. recursion_from_All (IsSoundAlone extended) l h) l h in
    each_whole extended spans refl (from_runs same_resource (λ s. s.resource) IsSoundResource (AreSoundScopes extended) in_scope resource_decides scopes spans sound)
