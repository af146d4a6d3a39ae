-- What clauses see of the makers.
use Rattle.std.specs.Prelude.{◌≡◌, ℕ, ◌+◌, ◌-◌, ◌^◌, List, [], ◌∷◌, Contains, Bool, true, false, min, Result, Err, IfOk, IsErrOf, if◌then◌else◌}
use Rattle.regex.specs.declared.error.Error.{Error}
use Rattle.regex.specs.declared.error.Error.TheVariants as cause
use Rattle.traceql_types.specs.declared.errors.MakeError.{MakeError}
use Rattle.traceql_types.specs.declared.errors.MakeError.TheVariants as error
use Rattle.traceql_types.specs.declared.pattern.Pattern.{Pattern}
use Rattle.traceql_types.specs.Patterns.{pattern_text}
use Rattle.traceql_types.specs.Whole.{whole_text, IsReadable, IsNoPattern}

-- one more, in a count of 64 bits that saturates at its end
abbrev pub counted_up : ℕ → ℕ
counted_up n = min (n + 1) (2 ^ 64 - 1)

-- the cause of a refusal by `regex`: all but faults of the text and running out of memory are refusals
abbrev pub cause_of_error : Error → MakeError
cause_of_error (cause.Syntax e) = error.Syntax
cause_of_error cause.OutOfMemory = error.Memory
cause_of_error _ = error.Refused

-- whether an answer is a refusal that is counted
abbrev pub is_refusal : Result Pattern MakeError → Bool
is_refusal (Err error.Refused) = true
is_refusal _ = false

-- the count after an answer
abbrev pub count_after : ℕ → Result Pattern MakeError → ℕ
count_after n result = if is_refusal result then counted_up n else n

-- one call of a maker: the text that was asked for, and the answer
abbrev pub Call : Type 0
Call = List ℕ × Result Pattern MakeError

-- what a maker says of its calls: which call leads from which state of the maker to which
abbrev pub Makes : Type 0 → Type 1
Makes M = M → Call → M → Type 0

-- These calls and no others, in order, lead from one state of a maker to another.
abbrev pub CallsLead : {M : Type 0} → Makes M → M → List Call → M → Type 0
CallsLead {M} makes old [] new = new ≡ old
CallsLead {M} makes old (c ∷ cs) new = (between : M) × makes old c between × CallsLead makes between cs new

-- the texts that these calls were refused for, in order
abbrev pub refused_in : List Call → List (List ℕ)
refused_in [] = []
refused_in (c ∷ cs) = if is_refusal c.1 then c.0 ∷ refused_in cs else refused_in cs

-- Between two states of a maker it refused these texts, in order, and no other.
pub record RefusesOnly {M : Type 0} (makes : Makes M) (old new : M) (texts : List (List ℕ)) : Type 0 where
  pub calls : List Call
  pub lead : CallsLead makes old calls new
  pub texts_are : texts ≡ refused_in calls

-- Between two states of a maker it was asked for a text and refused it.
pub record WasRefused {M : Type 0} (makes : Makes M) (old new : M) (text : List ℕ) : Type 0 where
  pub calls : List Call
  pub lead : CallsLead makes old calls new
  pub among : Contains calls (text, Err error.Refused)

-- a call of a `RegexMaker`, which is seen as its count of refusals
pub record RegexCall (old : ℕ) (call : Call) (new : ℕ) : Type 0 where
  pub shows : IfOk call.1 (λ p. pattern_text p ≡ call.0)
  pub syntax : IsErrOf call.1 error.Syntax → IsNoPattern call.0
  pub too_big : IsErrOf call.1 error.Refused → IsReadable (whole_text call.0)
  pub count : new ≡ count_after old call.1

-- a maker with a list of calls to refuse, counted from 1: the list, the calls so far, and the refusals so far
pub record Script : Type 0 where
  pub refused : List ℕ
  pub calls : ℕ
  pub refusals : ℕ

-- a call of such a maker: one that is listed is refused, and every other is handed on
pub record ScriptedCall (old : Script) (call : Call) (new : Script) : Type 0 where
  pub listed : Contains old.refused (counted_up old.calls) → IsErrOf call.1 error.Refused
  pub handed_on : (Contains old.refused (counted_up old.calls) → ⊥) → RegexCall old.refusals call new.refusals
  pub count : new.refusals ≡ count_after old.refusals call.1
  pub calls : new.calls ≡ counted_up old.calls
  pub script : new.refused ≡ old.refused
