-- What `regex` says of a text, as readings.
use Rattle.std.proofs.Common.{◌≡◌, ◌≢◌, inl, inr, ℕ, List, Option, Some, None, Result, Ok, Err, refl}
use Rattle.std.specs.Prelude.{IsSomeAnd, IfSome, chars}
use Rattle.regex.specs.Patterns.{default_config, Reads, Refuses}
use Rattle.regex.specs.declared.error.Error.{Error}
use Rattle.regex.specs.declared.error.Error.TheVariants as cause
use Rattle.regex.specs.Failures.{IsPattern, IsRightKind}
use Rattle.regex.specs.Sources.{IsRefusal}
use Rattle.regex_hir.specs.declared.hir.Hir.{Hir}
use Rattle.regex_syntax.specs.Grammar.{read, Names}
use Rattle.regex_syntax.specs.declared.error.ErrorKind.{ErrorKind}
use Rattle.regex_syntax.specs.declared.error.ErrorKind.TheVariants.{OutOfMemory}
use Rattle.traceql_types.specs.declared.errors.MakeError.{MakeError}
use Rattle.traceql_types.specs.declared.errors.MakeError.TheVariants as make
use Rattle.traceql_types.specs.Makers.{cause_of_error}
use Rattle.traceql_types.specs.Whole.{IsReadable, IsUnreadable}

-- a part of a fact of what is there
some-part : {X : Type 0} (P Q : X → Type 0) → ((x : X) → P x → Q x) → (o : Option X) → IsSomeAnd o P → IsSomeAnd o Q
some-part P Q part None h = h
some-part P Q part (Some x) h = part x h

-- nothing is there of which to say anything
none-any : {X : Type 0} (P : X → Type 0) → (o : Option X) → o ≡ None → IfSome o P
none-any P o e = rw e tt

pub readable_from : (text : List ℕ) (hir : Hir) (names : Names) → Reads default_config text hir names → IsReadable text
unfolding Reads
readable_from text hir names h = some-part _ _ (λ x p. p.0) (read default_config (chars text)) h

pub readable_pattern : (text : List ℕ) → IsPattern default_config text → IsReadable text
readable_pattern text h = readable_from text h.0 h.1 h.2

pub unreadable_from : (text : List ℕ) (kind : ErrorKind) → Refuses default_config text kind → kind ≢ OutOfMemory → IsUnreadable text
unfolding Refuses
unreadable_from text kind (inl memory) against = absurd (against memory)
unreadable_from text kind (inr (inl none)) against = none-any _ (read default_config (chars text)) none
unreadable_from text kind (inr (inr deep)) against = deep.1

-- what `regex` refuses as no pattern is none
pub unreadable_error : (text : List ℕ) (error : Error) → IsRefusal default_config text error → IsRightKind default_config text error →
    cause_of_error error ≡ make.Syntax → IsUnreadable text
unreadable_error text (cause.Syntax e) refusal right is = unreadable_from text e.kind (refusal e refl) right
unreadable_error text cause.CompiledTooBig refusal right is = cc
unreadable_error text cause.Internal refusal right is = cc
unreadable_error text cause.OutOfMemory refusal right is = cc

-- what it refuses otherwise is one
pub readable_error : (text : List ℕ) (error : Error) → IsRightKind default_config text error →
    cause_of_error error ≡ make.Refused → IsReadable text
readable_error text (cause.Syntax e) right is = cc
readable_error text cause.CompiledTooBig right is = readable_pattern text right
readable_error text cause.Internal right is = readable_pattern text right
readable_error text cause.OutOfMemory right is = cc

-- equal refusals have equal causes, and what was done is no refusal
pub same_cause : {T : Type 0} (a b : MakeError) → (let x : Result T MakeError = Err a in x ≡ Err b) → a ≡ b
same_cause a b e = cc

pub done_not_refused : {T : Type 0} (x : T) (a : MakeError) → (let y : Result T MakeError = Ok x in y ≡ Err a) → ⊥
done_not_refused x a e = cc
