use Rattle.std.proofs.Common.{◌≡◌, ◌∙◌, ℕ, ◌-◌, List, length, take, refl, ap, arith}
use Rattle.std.proofs.lemmas.Option.{IfSome_then}
use Rattle.store_state.specs.declared.listing.FlushFiles.{FlushFiles}
use Rattle.store_core.specs.Jobs.{one_if}
use Rattle.store_core.specs.NextList.{length_of}
use Rattle.store_core.specs.declared.state.CoreState.{CoreState}
use Rattle.store_core.proofs.state.CoreState.take_over.Goals as goal

pub end_flush-files-requires-clause-open : goal.end_flush-files-requires-clause-open
end_flush-files-requires-clause-open c = c.requires.open

pub end_flush-files-requires-clause-other : goal.end_flush-files-requires-clause-other
end_flush-files-requires-clause-other c =
    let len = ap (λ (l : List ℕ). length l) c.as_slice.ensures in
    let some = c.requires.other in
    omega (arith, len, some)

pub end_flush-files-requires-clause-room : goal.end_flush-files-requires-clause-room
end_flush-files-requires-clause-room c =
    let len = ap (λ (l : List ℕ). length l) c.as_slice.ensures in
    let few = c.requires.loose in
    omega (arith, len, few)

pub returns-clause-segment : goal.returns-clause-segment
returns-clause-segment c = IfSome_then c.args.self.now.jobs.flush c.end_flush-files.ensures.files (λ known is. c.fresh-self.ensures.0 ∙ ap (λ (f : FlushFiles). f.segment) is)

pub returns-clause-empty : goal.returns-clause-empty
returns-clause-empty c =
    let core : CoreState = c.args.self.now in
    let few = c.requires.few in
    let sum = c.length-first.ensures.sum in
    let first_is : c.length-first.result ≡ length_of core = omega (arith, sum, few) in
    let fresh = c.fresh-self.ensures in
    (fresh.1 ∙ first_is, fresh.2, fresh.3)

pub returns-clause-jobs : goal.returns-clause-jobs
returns-clause-jobs c = let e = c.end_flush-files.ensures in (e.gone, e.same.2, e.same.0, e.same.1)

pub returns-clause-loose : goal.returns-clause-loose
returns-clause-loose c = c.end_flush-files.ensures.loose ∙ ap (λ (l : List ℕ). take (length l - one_if c.args.self.now.jobs.compaction) l) c.as_slice.ensures

pub returns-clause-rows : goal.returns-clause-rows
returns-clause-rows c = let e = c.end_flush.ensures in (e.gone, e.same.1, e.same.0)

pub returns-clause-same : goal.returns-clause-same
returns-clause-same c = (refl, refl, refl)
