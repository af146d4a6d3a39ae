use Rattle.std.proofs.Common.{ℕ, ◌+◌, ◌-◌, ◌/◌, ◌∙◌, ◌<◌, Vec, Global, ap, arith, length, refl, subst, sym, take, slice_index_or}
use Rattle.std.specs.Prelude.{slice_set}
use Rattle.std.proofs.lemmas.List.{get_or_default, length-set, length-take}
use Rattle.std.proofs.lemmas.List.Sums.{count_by-le-length}
use Rattle.traceql_metrics.specs.Series.{bucket_count, is_in_bucket}
use Rattle.traceql_metrics.proofs.Moments.{bucket_within, counted_more, passed_more, AreCounts}
use Rattle.traceql_metrics.proofs.counting.counts_of.Goals as goal
use Rattle.traceql_metrics.proofs.counting.counts_of.Goals.{then-hold, else-hold}

pub overflow_add-index_mut : goal.overflow_add-index_mut
overflow_add-index_mut c =
    let k = c.loop-moment.moment-index in
    let moment = slice_index_or c.args.moments.now k 0 in
    let b = (moment - c.args.steps.start) / c.args.steps.step in
    let within = bucket_within c.args.steps.start c.args.steps.end c.args.steps.step moment c.requires.some (sym c.hold.ensures ∙ c.if-hold.true) in
    let most = count_by-le-length (is_in_bucket c.args.steps.start c.args.steps.end c.args.steps.step b) (take k c.args.moments.now) in
    let there : b < length c.loop-moment.counts.items = omega (arith, within, c.loop-moment.invariant.one_each) in
    let each = c.loop-moment.invariant.each b there in
    let value = c.index_mut.ensures.value ∙ get_or_default c.loop-moment.counts.items b c.index_mut.result.now 0 there ∙ each in
    omega (arith, most, value, length-take k c.args.moments.now)

pub loop-moment-preserved : goal.loop-moment-preserved
loop-moment-preserved c =
    let start = c.args.steps.start in
    let until = c.args.steps.end in
    let step = c.args.steps.step in
    let k = c.loop-moment.moment-index in
    let moment = slice_index_or c.args.moments.now k 0 in
    let old = c.loop-moment.counts.items in
    let b = (moment - start) / step in
    elim c.if-hold.branch [
      | then-hold w ↦
          let h = sym c.hold.ensures ∙ w.if-hold.true in
          let within = bucket_within start until step moment c.requires.some h in
          let there : b < length old = omega (arith, within, c.loop-moment.invariant.one_each) in
          let value = w.index_mut.ensures.value ∙ get_or_default old b w.index_mut.result.now 0 there in
          let new = ap (λ (v : Vec ℕ Global). v.items) w.counts-is ∙ ap (λ (n : ℕ). slice_set old b (n + 1)) value in
          record {
            one_each = ap length new ∙ length-set old b (slice_index_or old b 0 + 1) ∙ c.loop-moment.invariant.one_each;
            each =
                counted_more start until step c.args.moments.now old c.if-hold.counts.items k b 0 c.requires.some c.loop-moment-test.true h refl
                there new c.loop-moment.invariant.each;
          }
      | else-hold w ↦
          let same = ap (λ (v : Vec ℕ Global). v.items) w.counts-is in
          record {
            one_each = ap length same ∙ c.loop-moment.invariant.one_each;
            each =
                subst (AreCounts start until step (take (k + 1) c.args.moments.now)) (sym same)
                (passed_more start until step c.args.moments.now old k 0 c.loop-moment-test.true (sym c.hold.ensures ∙ w.if-hold.false) c.loop-moment.invariant.each);
          }
    ]
