use Rattle.session_text.proofs.PartLemmas.{parts-split}
use Rattle.session_text.proofs.options.split_text.Goals as goal

pub returns-in-Some-clause-first : goal.returns-in-Some-clause-first
returns-in-Some-clause-first c =
    let h = parts-split c.args.text.now c.split_once.result c.split_once.ensures.cases in
    let there = rw c.in-Some.is at h in
    there.0

pub returns-in-Some-clause-others : goal.returns-in-Some-clause-others
returns-in-Some-clause-others c =
    let h = parts-split c.args.text.now c.split_once.result c.split_once.ensures.cases in
    let there = rw c.in-Some.is at h in
    there.1

pub returns-in-None-clause-first : goal.returns-in-None-clause-first
returns-in-None-clause-first c =
    let h = parts-split c.args.text.now c.split_once.result c.split_once.ensures.cases in
    let there = rw c.in-None.is at h in
    there.0

pub returns-in-None-clause-others : goal.returns-in-None-clause-others
returns-in-None-clause-others c =
    let h = parts-split c.args.text.now c.split_once.result c.split_once.ensures.cases in
    let there = rw c.in-None.is at h in
    there.1
