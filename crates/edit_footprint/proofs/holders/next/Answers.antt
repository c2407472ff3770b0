use Rattle.std.proofs.Common.{leb, rules, sym, ◌∙◌}
use Rattle.std.proofs.lemmas.List.Sorted.{IsPartitionPoint-from_clause, IsPartitionedBy-leb}
use Rattle.edit_footprint.proofs.Searching.{never_falling, first_at_point, lent_at}
use Rattle.edit_footprint.proofs.holders.next.Goals as goal

pub returns : goal.returns
returns c =
    let xs = c.args.numbers.now in
    let parted = IsPartitionedBy-leb (λ y. y) xs c.args.seq (never_falling xs c.requires) in
    let point = IsPartitionPoint-from_clause
    (λ y. leb y c.args.seq) xs c.partition_point-after.result c.partition_point-after.ensures.partitioned parted
    (λ a r q k. search rules) in
    c.copied.ensures ∙ lent_at xs c.partition_point-after.result c.get.result c.get.ensures.lookup
    ∙ sym (first_at_point c.args.seq xs c.partition_point-after.result point)
