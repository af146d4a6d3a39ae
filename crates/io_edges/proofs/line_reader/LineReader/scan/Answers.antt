use Rattle.std.proofs.Common.{◌≡◌, ◌++◌, ◌+◌, length, take, drop, ap, sym, ◌∙◌, subst, arith}
use Rattle.std.proofs.lemmas.List.{drop_all}
use Rattle.io_edges.specs.Reader.{IsBegun}
use Rattle.io_edges.specs.declared.begun.Begun.{Begun}
use Rattle.io_edges.proofs.ReaderLemmas.{ends_by_feed, Holds-begun}
use Rattle.io_edges.proofs.line_reader.LineReader.scan.Goals as goal

pub returns-in_ok-add-in-Some-clause-line : goal.returns-in_ok-add-in-Some-clause-line
returns-in_ok-add-in-Some-clause-line c = λ held holds.
    let seen : c.self.inside.block.pending ≡ c.args.self.now.pending = ap (λ r. r.pending) c.self.view_is in
    let same : c.args.self.now.begun ≡ c.self.inside.begun = sym (ap (λ r. r.begun) c.self.view_is) in
    let run = take c.in-Some.at c.pending-pending.result.now in
    ends_by_feed c.args.self.now _ held c.pending-pending.result.now c.in-Some.at c.finish.result holds
    (c.pending-pending.ensures ∙ seen)
    c.in-Some.ensures.within c.in-Some.ensures.found c.in-Some.ensures.first
    (λ piece begun.
    let Began : Begun → Type 0 = λ b. IsBegun b piece in
    let Grown : Begun → Type 0 = λ b. IsBegun b (piece ++ run) in
    c.finish.ensures.line (piece ++ run)
    (subst Grown (sym c.replace-begun.ensures.value) (c.in_ok-add-in-Some.ensures.ok piece (subst Began same begun))))
    (c.replace-begun.ensures.after ∙ c.new.ensures)
    (c.pass.ensures.pending ∙ ap (drop (c.in-Some.at + 1)) (sym c.pending-pending.ensures))

pub returns-in_ok-add-in-None-clause-kept : goal.returns-in_ok-add-in-None-clause-kept
returns-in_ok-add-in-None-clause-kept c = λ held holds.
    let seen : c.self.inside.block.pending ≡ c.args.self.now.pending = ap (λ r. r.pending) c.self.view_is in
    let same : c.args.self.now.begun ≡ c.self.inside.begun = sym (ap (λ r. r.begun) c.self.view_is) in
    Holds-begun c.args.self.now _ held c.pending-pending.result.now holds
    (c.pending-pending.ensures ∙ seen)
    c.in-None.ensures.absent
    (λ piece begun.
    let Began : Begun → Type 0 = λ b. IsBegun b piece in
    c.in_ok-add-in-None.ensures.ok piece (subst Began same begun))
    (c.pass-in-None.ensures.pending ∙ drop_all (length c.pending-pending.result.now) c.self.inside.block.pending (omega (arith, ap length c.pending-pending.ensures)))
