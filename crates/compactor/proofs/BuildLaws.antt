-- The block that is built of several lists of rows.
use Rattle.std.proofs.Common.{◌≡◌, ℕ, List, refl, ap, subst, sym}
use Rattle.std.specs.List.{flat_map}
use Rattle.span_types.specs.declared.spans.Row.{Row}
use Rattle.span_types.specs.First.{IsFirstOf}
use Rattle.block_info.specs.InfoParts.{InfoParts}
use Rattle.block_build.specs.Built.{IsBlockOf}
use Rattle.block_build.specs.declared.building.BuiltBlock.{BuiltBlock}
use Rattle.compactor.specs.Rounds.{IsJoined}
use Rattle.compactor.specs.Phases.{relabelled}

joined_with : (file level : ℕ) (parts : List (List Row)) (rows : List Row) (built : BuiltBlock) → rows ≡ flat_map (λ (rows : List Row). rows) parts → IsBlockOf rows built
    → IsJoined file level parts built.bytes (relabelled file level built.info)
joined_with file level parts rows built all is = record {
  firsts = is.firsts;
  are_first = subst (λ (rows : List Row). IsFirstOf rows is.firsts) all is.firsts_are;
  describes = record {
    header = is.describes.header;
    parts = is.describes.parts;
    info_is = ap (relabelled file level) is.describes.info_is;
  };
  counted = ap (λ (i : InfoParts). i.rows) is.describes.info_is;
  its_file = refl;
  its_level = refl;
}

pub joined_block : (file level : ℕ) (parts : List (List Row)) (rows : List Row) (built : BuiltBlock) (info : InfoParts) → rows ≡ flat_map (λ (rows : List Row). rows) parts → IsBlockOf rows built
    → info ≡ relabelled file level built.info → IsJoined file level parts built.bytes info
joined_block file level parts rows built info all is same = subst (λ (i : InfoParts). IsJoined file level parts built.bytes i) (sym same) (joined_with file level parts rows built all is)
