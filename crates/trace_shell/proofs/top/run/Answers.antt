use Rattle.std.proofs.Common.{⊎_elim, ap, inl, inr, map, string_bytes, sym, ◌∙◌}
use Rattle.session_meaning.specs.Statuses.{status_of}
use Rattle.trace_shell.proofs.RunLemmas.{ended_before}
use Rattle.trace_shell.proofs.ServingLemmas.{serving_reads}
use Rattle.trace_shell.proofs.top.run.Goals as goal

pub returns-then-not-asks_to_serve-clause-ran : goal.returns-then-not-asks_to_serve-clause-ran
returns-then-not-asks_to_serve-clause-ran g c = inl c.run_alone.ensures.ran

pub returns-then-not-asks_to_serve-clause-recovers : goal.returns-then-not-asks_to_serve-clause-recovers
returns-then-not-asks_to_serve-clause-recovers g c = λ told sound. inl (c.run_alone.ensures.recovers told sound)

pub returns-clause-ran : goal.returns-clause-ran
returns-clause-ran g c =
    ⊎_elim (λ o. inl (o.0, o.2, o.3, c.status.ensures ∙ ap status_of (sym o.1), o.4)) (λ s. inr (s.0, s.2, s.3, c.status.ensures ∙ ap status_of (sym s.1), s.4)) c.serve_words-ending.ensures.ran

pub returns-clause-recovers : goal.returns-clause-recovers
returns-clause-recovers g c = λ told sound.
    ⊎_elim (λ o. inl (o.0, o.2, o.3, c.status.ensures ∙ ap status_of (sym o.1), o.4)) (λ s. inr (s.0, s.2, s.3, c.status.ensures ∙ ap status_of (sym s.1), s.4))
    (c.serve_words-ending.ensures.recovers told sound)

pub returns-clause-left : goal.returns-clause-left
returns-clause-left g c = λ told file at breaks other.
    c.serve_words-ending.ensures.left told file at breaks (λ is. other (c.status.ensures ∙ ap status_of is))

pub returns-clause-unread : goal.returns-clause-unread
returns-clause-unread g c = λ early. c.serve_words-ending.ensures.unread (ended_before c.serve_words-ending.result.0 c.status.result c.status.ensures early)

pub returns-clause-alone : goal.returns-clause-alone
returns-clause-alone g c = λ asks takes spells.
    absurd (serving_reads (map string_bytes c.args.words.now) asks spells (sym c.asks_to_serve.ensures ∙ c.if-not-asks_to_serve.false) takes)
