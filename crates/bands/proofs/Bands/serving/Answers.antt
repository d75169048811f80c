-- `bands::Bands::serving` meets its contract: the place that the search finds is that of the last band that is not above the size. Assumes nothing.
use native.Mathlib.Omega.{arith}
use borrow.Author.Rules.{rules}
use lib.Dec.{leb}
use mathlib.Core.Path.{◌∙◌}
use Rattle.std.proofs.lemmas.List.Sorted.{IsPartitionPoint-from_clause}
use Rattle.bands.proofs.Serving.{band_within, later_parted, later_few, serves}
use Rattle.bands.proofs.Bands.serving.Goals as goal

pub past-band-requires : goal.past-band-requires
past-band-requires g c =
    omega (arith, band_within _ _ c.requires.le_count.1 (later_few c.args.file.now c.args.size c.as_slice.ensures.value c.requires.le_count.0 c.requires.sizes_of c.partition_point-k.ensures.bound))

pub band-requires : goal.band-requires
band-requires g c =
    omega (arith, band_within _ _ c.requires.le_count.1 (later_few c.args.file.now c.args.size c.as_slice.ensures.value c.requires.le_count.0 c.requires.sizes_of c.partition_point-k.ensures.bound))

pub returns : goal.returns
returns g c =
    let parted = later_parted c.args.file.now c.args.size c.as_slice.ensures.value c.requires.le_count.0 c.requires.sizes_of c.requires.le_count.2 in
    let point = IsPartitionPoint-from_clause (λ s. leb s c.args.size) _ _ c.partition_point-k.ensures.partitioned parted (λ a r q k. search rules) in
    c.band.ensures.0 ∙ serves c.args.file.now c.args.size c.as_slice.ensures.value c.requires.le_count.0 c.requires.sizes_of c.partition_point-k.ensures.bound c.past-band.ensures point (omega arith)
