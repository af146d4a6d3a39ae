-- The laws of a reader, for a relation that says the same.
use Rattle.std.proofs.Common.{ℕ, suc, List, [], ◌∷◌, ◌++◌, Bool, inl, inr}
use Rattle.traceql_tokens.specs.declared.kinds.Token.{Token}
use Rattle.traceql_tokens.specs.declared.kinds.TokenKind.{TokenKind}
use Rattle.traceql_parse.specs.declared.stop.Cause.{Cause}
use Rattle.traceql_parse.specs.declared.stop.Cause.TheVariants as cause
use Rattle.traceql_parse.proofs.Laws.{Reader, Lang, IsSound, Completes, Starts, Viable, Bars, IsRefusing}

module _ {A : Type 0} (r : Reader A) (P Q : Lang A) (to : (n : ℕ) (a : A) (ts : List Token) → P n a ts → Q n a ts) where
  pub relabel_sound : (n : ℕ) → IsSound r P n → IsSound r Q n
  relabel_sound n s ts a rest e =
      let one = s ts a rest e in
      record { front = one.front; cut = one.cut; spelled = to n a one.front one.spelled; stable = one.stable }

  starts_to : (n : ℕ) (front : List Token) → Starts P n front → Starts Q n front
  starts_to n front s = (s.0, s.1, to n s.0 (front ++ s.1) s.2)

  viable_to : (n : ℕ) (front : List Token) → Viable P n front → Viable Q n front
  viable_to n front (inl e) = inl e
  viable_to n front (inr s) = inr (starts_to n front s)

  bars_to : (n : ℕ) (front rest : List Token) (why : Cause) → Bars r P n front rest why → Bars r Q n front rest why
  bars_to n front [] why b = b
  bars_to n front (t ∷ rest) cause.Unfinished b = b
  bars_to n front (t ∷ rest) cause.Unexpected b = b
  bars_to n front (t ∷ rest) cause.Faulty b = (b.0, starts_to n _ b.1)
  bars_to n front (t ∷ rest) cause.TooDeep b = (b.0, starts_to (suc n) _ b.1)

  pub relabel_refuses : (n : ℕ) → IsRefusing r P n → IsRefusing r Q n
  relabel_refuses n q ts why rest e =
      let b = q ts why rest e in
      record { front = b.front; cut = b.cut; viable = viable_to n b.front b.viable; bars = bars_to n b.front rest why b.bars }

pub relabel_completes : {A : Type 0} (r : Reader A) (P Q : Lang A) → ((n : ℕ) (a : A) (ts : List Token) → Q n a ts → P n a ts) → (g : TokenKind → Bool) (n : ℕ) → Completes r P g n → Completes r Q g n
relabel_completes r P Q from g n c a front rest d stop = c a front rest (from n a front d) stop
