-- From the laws of a reader to what parsing promises.
use Rattle.std.proofs.Common.{◌≡◌, ℕ, zero, suc, ◌≤◌, Bool, true, false, List, [], ◌∷◌, ◌++◌, length, Option, Some, Ok, Err, inl, inr, refl, sym, ◌∙◌, ap, subst, append_assoc, append-nil}
use Rattle.traceql_tokens.specs.Tokens.{AreTokensOf, fault_of}
use Rattle.traceql_tokens.specs.declared.fixed.Word.{Word}
use Rattle.traceql_tokens.specs.declared.kinds.Fault.{Fault}
use Rattle.traceql_tokens.specs.declared.kinds.Fault.TheVariants as fault
use Rattle.traceql_tokens.specs.declared.kinds.Token.{Token}
use Rattle.traceql_tokens.specs.declared.kinds.TokenKind.{TokenKind}
use Rattle.traceql_tokens.specs.declared.kinds.TokenKind.TheVariants as token
use Rattle.traceql_syntax.specs.declared.errors.ParseError.{ParseError}
use Rattle.traceql_syntax.specs.declared.errors.ParseError.TheVariants as error
use Rattle.span_types.specs.declared.limits.TheConstants.{MOST_QUERY_BYTES}
use Rattle.traceql_syntax.specs.Refusals.{DEPTH, Spelling, Begins, Blames, unknown, unexpected, faulty, deep, IsCause, IsRefusalOf, ReadsAs, Refuses, healed, fault_error}
use Rattle.traceql_parse.specs.declared.stop.Cause.{Cause}
use Rattle.traceql_parse.specs.declared.stop.Cause.TheVariants as cause
use Rattle.traceql_parse.specs.Outcome.{token_error, error_of, outcome}
use Rattle.traceql_parse.specs.Reading.{Answer}
use Rattle.traceql_parse.proofs.Laws.{Reader, Lang, deeper, Took, IsSound, Occurs, Starts, Viable, Fails, Bars, IsRefusing}
use Rattle.traceql_parse.proofs.Base.{ok_inj, right}
use Rattle.traceql_parse.proofs.Choices.{deeper_suc}

-- where one construct more than n may be open
abbrev pub Above : {A : Type 0} → Spelling A → Lang A
Above S n a ts = S (suc n) a ts

-- The reader reads what the grammar spells, all of it, and refuses at the earliest place.
pub record Parses {A : Type 0} (r : Reader A) (S : Spelling A) : Type 0 where
  pub grows : (n : ℕ) (a : A) (ts : List Token) → S n a ts → S (suc n) a ts
  pub sound : (n : ℕ) → IsSound r (Above S) n
  pub whole : (n : ℕ) (a : A) (ts : List Token) → S (suc n) a ts → r n ts ≡ Ok (a, [])
  pub refuses : (n : ℕ) → IsRefusing r (Above S) n
  pub occurs : Occurs (Above S)

deeper_zero : (n : ℕ) → deeper n zero ≡ n
deeper_zero zero = refl
deeper_zero (suc n) = ap suc (deeper_zero n)

deeper_either : (m n : ℕ) → deeper m n ≡ deeper n m
deeper_either zero n = sym (deeper_zero n)
deeper_either (suc m) n = ap suc (deeper_either m n) ∙ sym (deeper_suc n m)

outcome_ok : {A : Type 0} (len : ℕ) (r : Answer A) (q : A) → outcome len r ≡ Ok q → r ≡ Ok (q, [])
outcome_ok {A = A} len (Ok (p, [])) q h = let same : p ≡ q = cc in ap (λ (z : A). right (z, [])) same
outcome_ok len (Ok (p, (t ∷ ts))) q h = cc
outcome_ok len (Err (why, rest)) q h = cc

fails_ok : {A : Type 0} (r : Answer A) (x : A × List Token) → r ≡ Ok x → Fails r → ⊥
fails_ok {A = A} r x h k = subst (λ (z : Answer A). Fails z) h k

-- no refusal of what was read is for length
abbrev pub is_long : ParseError → Bool
is_long (error.TooLong len) = true
is_long _ = false

fault_short : (at : ℕ) (f : Fault) → is_long (fault_error at f) ≡ false
fault_short at fault.NumberRange = refl
fault_short at _ = refl

token_short : (why : Cause) (at : ℕ) (k : TokenKind) → is_long (token_error why at k) ≡ false
token_short cause.Faulty at (token.Broken c f) = fault_short at f
token_short cause.Faulty at (token.Mark s) = refl
token_short cause.Faulty at _ = refl
token_short cause.TooDeep at (token.Mark s) = refl
token_short cause.TooDeep at _ = refl
token_short _ at (token.Mark s) = refl
token_short _ at _ = refl

error_short : (why : Cause) (len : ℕ) (rest : List Token) → is_long (error_of why len rest) ≡ false
error_short why len [] = refl
error_short why len (t ∷ rest) = token_short why t.at t.kind

outcome_short : {A : Type 0} (len : ℕ) (r : Answer A) (e : ParseError) → outcome len r ≡ Err e → is_long e ≡ false
outcome_short len (Ok (q, [])) e h = cc
outcome_short len (Ok (q, (t ∷ rest))) e h = let same : token_error cause.Unexpected t.at t.kind ≡ e = cc in ap is_long (sym same) ∙ token_short cause.Unexpected t.at t.kind
outcome_short len (Err (why, rest)) e h = let same : error_of why len rest ≡ e = cc in ap is_long (sym same) ∙ error_short why len rest

is_refusal : {A : Type 0} (words : List Word) (S : Spelling A) (text : List ℕ) (e : ParseError) → is_long e ≡ false → length text ≤ MOST_QUERY_BYTES → Refuses words S DEPTH text e → IsRefusalOf words S text e
is_refusal words S text error.Memory h fits r = tt
is_refusal words S text (error.TooLong len) h fits r = cc
is_refusal words S text (error.BadChar at) h fits r = (fits, r)
is_refusal words S text (error.Unexpected at) h fits r = (fits, r)
is_refusal words S text (error.Unended at) h fits r = (fits, r)
is_refusal words S text (error.NumberRange at) h fits r = (fits, r)
is_refusal words S text (error.FractionLiteral at) h fits r = (fits, r)
is_refusal words S text (error.TooDeep at) h fits r = (fits, r)

module _ {A : Type 0} (r : Reader A) (S : Spelling A) (laws : Parses r S) where
  deepen : (m n : ℕ) (q : A) (ts : List Token) → S n q ts → S (deeper m n) q ts
  deepen zero n q ts d = d
  deepen (suc m) n q ts d = laws.grows (deeper m n) q ts (deepen m n q ts d)

  -- what is spelled at any depth is spelled at a depth above both
  above : (d n : ℕ) (q : A) (ts : List Token) → S d q ts → S (suc (deeper d n)) q ts
  above d n q ts k = laws.grows (deeper d n) q ts (subst (λ z. S z q ts) (deeper_either n d) (deepen n d q ts k))

  -- What is spelled is read.

  pub outcome_complete : (len n : ℕ) (q : A) (ts : List Token) → S (suc n) q ts → outcome len (r n ts) ≡ Ok q
  outcome_complete len n q ts d = ap (outcome len) (laws.whole n q ts d)

  -- What is read is spelled so.

  pub outcome_found : (len n : ℕ) (q : A) (ts : List Token) → outcome len (r n ts) ≡ Ok q → S (suc n) q ts
  outcome_found len n q ts h =
      let took = laws.sound n ts q [] (outcome_ok len (r n ts) q h) in
      subst (λ (z : List Token). S (suc n) q z) (sym (took.cut ∙ append-nil took.front)) took.spelled

  -- Tokens spell one tree at most, and so does a text.

  spelled_once : (d e : ℕ) (p q : A) (ts : List Token) → S d p ts → S e q ts → p ≡ q
  spelled_once d e p q ts h k =
      let one : r (deeper d e) ts ≡ Ok (p, []) = laws.whole (deeper d e) p ts (above d e p ts h) in
      let two : r (deeper d e) ts ≡ Ok (q, []) = laws.whole (deeper d e) q ts (laws.grows (deeper d e) q ts (deepen d e q ts k)) in
      ap (λ (z : A × List Token). z.0) (ok_inj (r (deeper d e) ts) (p, []) (q, []) one two)

  pub reading_unique : (words : List Word) → ((text : List ℕ) (ts us : List Token) → AreTokensOf words 0 text ts → AreTokensOf words 0 text us → ts ≡ us) → (text : List ℕ) (p q : A) (d e : ℕ) → ReadsAs words S d text p → ReadsAs words S e text q → p ≡ q
  reading_unique words once text p q d e one two =
      let same : one.tokens ≡ two.tokens = once text one.tokens two.tokens one.lexed two.lexed in
      spelled_once d e p q two.tokens (subst (λ (z : List Token). S d p z) same one.spelled) two.spelled

  -- Refusals.

  begun : (n : ℕ) (front : List Token) → Viable (Above S) n front → Begins S (suc n) front
  begun n front (inl e) = let o = laws.occurs n in (o.0, o.1, subst (λ (z : List Token). S (suc n) o.0 (z ++ o.1)) (sym e) o.2)
  begun n front (inr s) = s

  module _ (n : ℕ) (front : List Token) (t : Token) where
    none_begins : ((m : ℕ) (more : List Token) → Fails (r (deeper m n) (front ++ (healed t ∷ more)))) → (d : ℕ) → Begins S d (front ++ (healed t ∷ [])) → ⊥
    none_begins b d s =
        let ts : List Token = front ++ (healed t ∷ s.1) in
        let spelled : S (suc (deeper d n)) s.0 ts = above d n s.0 ts (subst (λ (z : List Token). S d s.0 z) (append_assoc front (healed t ∷ []) s.1) s.2) in
        fails_ok (r (deeper d n) ts) (s.0, []) (laws.whole (deeper d n) s.0 ts spelled) (b d s.1)

    not_yet : ((more : List Token) → Fails (r n (front ++ (healed t ∷ more)))) → Begins S (suc n) (front ++ (healed t ∷ [])) → ⊥
    not_yet b s =
        let ts : List Token = front ++ (healed t ∷ s.1) in
        fails_ok (r n ts) (s.0, []) (laws.whole n s.0 ts (subst (λ (z : List Token). S (suc n) s.0 z) (append_assoc front (healed t ∷ []) s.1) s.2)) (b s.1)

    blamed_unexpected : (k : TokenKind) → t.kind ≡ k → ((d : ℕ) → Begins S d (front ++ (healed t ∷ [])) → ⊥) → Blames S (suc n) front t (token_error cause.Unexpected t.at k)
    blamed_unexpected token.Unknown e none = unknown e
    blamed_unexpected (token.Mark s) e none = unexpected (λ u. let x : token.Mark s ≡ token.Unknown = sym e ∙ u in cc) none
    blamed_unexpected (token.Keyword s) e none = unexpected (λ u. let x : token.Keyword s ≡ token.Unknown = sym e ∙ u in cc) none
    blamed_unexpected (token.Builtin s) e none = unexpected (λ u. let x : token.Builtin s ≡ token.Unknown = sym e ∙ u in cc) none
    blamed_unexpected (token.Named s name) e none = unexpected (λ u. let x : token.Named s name ≡ token.Unknown = sym e ∙ u in cc) none
    blamed_unexpected (token.Quoted s) e none = unexpected (λ u. let x : token.Quoted s ≡ token.Unknown = sym e ∙ u in cc) none
    blamed_unexpected (token.Number s) e none = unexpected (λ u. let x : token.Number s ≡ token.Unknown = sym e ∙ u in cc) none
    blamed_unexpected (token.Duration s) e none = unexpected (λ u. let x : token.Duration s ≡ token.Unknown = sym e ∙ u in cc) none
    blamed_unexpected (token.Broken s f) e none = unexpected (λ u. let x : token.Broken s f ≡ token.Unknown = sym e ∙ u in cc) none
    blamed_unexpected token.Nameless e none = unexpected (λ u. let x : token.Nameless ≡ token.Unknown = sym e ∙ u in cc) none

    blamed_faulty : (k : TokenKind) (f : Fault) → t.kind ≡ k → fault_of k ≡ Some f → Begins S (suc n) (front ++ (healed t ∷ [])) → Blames S (suc n) front t (token_error cause.Faulty t.at k)
    blamed_faulty (token.Broken c f) g e h s = faulty (ap fault_of e) s
    blamed_faulty _ g e h s = cc

    blamed_deep : (k : TokenKind) → t.kind ≡ k → (Begins S (suc n) (front ++ (healed t ∷ [])) → ⊥) → Begins S (suc (suc n)) (front ++ (healed t ∷ [])) → Blames S (suc n) front t (token_error cause.TooDeep t.at k)
    blamed_deep token.Unknown e none s = unknown e
    blamed_deep _ e none s = deep none s

    blames : (rest : List Token) (why : Cause) → Bars r (Above S) n front (t ∷ rest) why → Blames S (suc n) front t (token_error why t.at t.kind)
    blames rest cause.Unfinished b = absurd b
    blames rest cause.Unexpected b = blamed_unexpected t.kind refl (none_begins b)
    blames rest cause.Faulty b = blamed_faulty t.kind b.0.0 refl b.0.1 b.1
    blames rest cause.TooDeep b = blamed_deep t.kind refl (not_yet b.0) b.1

    -- what is read, and a token after it
    trailing : (ts rest : List Token) (q : A) (took : Took r (Above S) n ts q (t ∷ rest)) → took.front ≡ front → Blames S (suc n) front t (token_error cause.Unexpected t.at t.kind)
    trailing ts rest q took same = blamed_unexpected t.kind refl none
      where
        none : (d : ℕ) → Begins S d (front ++ (healed t ∷ [])) → ⊥
        none d s =
            let us : List Token = front ++ (healed t ∷ s.1) in
            let spelled : S (suc (deeper d n)) s.0 us = above d n s.0 us (subst (λ (z : List Token). S d s.0 z) (append_assoc front (healed t ∷ []) s.1) s.2) in
            let one : r (deeper d n) us ≡ Ok (s.0, []) = laws.whole (deeper d n) s.0 us spelled in
            let two : r (deeper d n) us ≡ Ok (q, healed t ∷ s.1) = ap (λ (z : List Token). r (deeper d n) (z ++ (healed t ∷ s.1))) (sym same) ∙ took.stable d (healed t ∷ s.1) (inr refl) in
            let both : [] ≡ healed t ∷ s.1 = ap (λ (z : A × List Token). z.1) (ok_inj (r (deeper d n) us) (s.0, []) (q, healed t ∷ s.1) one two) in
            cc

  cause_of : (n len : ℕ) (ts front rest : List Token) (why : Cause) → ts ≡ front ++ rest → r n ts ≡ Err (why, rest) → Bars r (Above S) n front rest why → IsCause S (suc n) len front rest (error_of why len rest)
  cause_of n len ts front [] why cut h b = (refl, none)
    where
      none : (q : A) → S (suc n) q front → ⊥
      none q d = let read : r n ts ≡ Ok (q, []) = ap (r n) (cut ∙ append-nil front) ∙ laws.whole n q front d in cc
  cause_of n len ts front (t ∷ rest) why cut h b = blames n front t rest why b

  refuses : (words : List Word) (n : ℕ) (text : List ℕ) (ts : List Token) (e : ParseError) → AreTokensOf words 0 text ts → outcome (length text) (r n ts) ≡ Err e → Refuses words S (suc n) text e
  refuses words n text ts e lexed h = go (r n ts) refl h
    where
      go : (x : Answer A) → r n ts ≡ x → outcome (length text) x ≡ Err e → Refuses words S (suc n) text e
      go (Ok (q, [])) k w = cc
      go (Ok (q, (t ∷ rest))) k w =
          let took = laws.sound n ts q (t ∷ rest) k in
          let same : token_error cause.Unexpected t.at t.kind ≡ e = cc in
          record {
            front = took.front;
            rest = t ∷ rest;
            lexed = subst (λ (z : List Token). AreTokensOf words 0 text z) took.cut lexed;
            begun = (q, [], subst (λ (z : List Token). S (suc n) q z) (sym (append-nil took.front)) took.spelled);
            cause = subst (λ (z : ParseError). Blames S (suc n) took.front t z) same (trailing n took.front t ts rest q took refl);
          }
      go (Err (why, rest)) k w =
          let b = laws.refuses n ts why rest k in
          let same : error_of why (length text) rest ≡ e = cc in
          record {
            front = b.front;
            rest = rest;
            lexed = subst (λ (z : List Token). AreTokensOf words 0 text z) b.cut lexed;
            begun = begun n b.front b.viable;
            cause = subst (λ (z : ParseError). IsCause S (suc n) (length text) b.front rest z) same (cause_of n (length text) ts b.front rest why b.cut k b.bars);
          }

  pub refusal_is : (words : List Word) (text : List ℕ) (ts : List Token) (e : ParseError) → AreTokensOf words 0 text ts → length text ≤ MOST_QUERY_BYTES → outcome (length text) (r 63 ts) ≡ Err e → IsRefusalOf words S text e
  refusal_is words text ts e lexed fits h = is_refusal words S text e (outcome_short (length text) (r 63 ts) e h) fits (refuses words 63 text ts e lexed h)
