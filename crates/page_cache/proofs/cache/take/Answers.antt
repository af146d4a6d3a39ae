use Rattle.std.proofs.Common.{◌≡◌, ◌∙◌, ap, subst, sym}
use Rattle.std.specs.Prelude.{None, nat_eq}
use Rattle.std.specs.Map.{lookup}
use Rattle.std.specs.Option.{IsSome, option_copied_mut}
use Rattle.lru.specs.LruCache.{put_entries}
use Rattle.page_cache.proofs.FrameLaws.{last_is_there, written_in_front}
use Rattle.page_cache.proofs.cache.take.Goals as goal

pub unreachable-requires : goal.unreachable-requires
unreachable-requires c =
    let none : lookup (nat_eq c.args.key) c.args.frames.now.entries ≡ None = sym c.get_mut.ensures.value ∙ ap (λ r. option_copied_mut r) c.in_default.is in
    let some = subst (λ o. IsSome o) none (last_is_there c.args.frames.now.entries c.args.key c.requires) in cc

pub returns-clause-taken : goal.returns-clause-taken
returns-clause-taken c = written_in_front c.args.key c.fill.new.frame c.args.frames.now c.requires ∙ ap (put_entries nat_eq c.args.frames.now c.args.key) c.fill.ensures
