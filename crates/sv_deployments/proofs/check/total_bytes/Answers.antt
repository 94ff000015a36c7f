use Rattle.std.proofs.Common.{◌≡◌, ◌+◌, ap, arith, length}
use Rattle.std.proofs.lemmas.List.Sums.{sum_by_more, sum_by-take-le}
use Rattle.sv_files.specs.declared.files.File.{File}
use Rattle.sv_deployments.proofs.TotalBytes.{few_bytes}
use Rattle.sv_deployments.proofs.check.total_bytes.Goals as goal

pub overflow_add-total : goal.overflow_add-total
overflow_add-total c =
    let own : c.len-total.result ≡ length c.file-item.result.bytes = c.len-total.ensures.value in
    omega (
      arith,
      own,
      ap (λ (file : File). length file.bytes) c.file-item.is,
      c.loop-file.invariant,
      sum_by_more (λ (file : File). length file.bytes) c.args.files.now c.loop-file.file-index c.file-item.result c.loop-file-test.true,
      sum_by-take-le (λ (file : File). length file.bytes) c.args.files.now (c.loop-file.file-index + 1),
      few_bytes c.args.files.now c.requires,
    )
