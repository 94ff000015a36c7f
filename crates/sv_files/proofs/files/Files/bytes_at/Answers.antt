use Rattle.std.proofs.Common.{sym}
use Rattle.sv_files.proofs.Places.{file_at-none, file_at-some}
use Rattle.sv_files.proofs.files.Files.bytes_at.Goals as goal

pub returns-in_err-place_of : goal.returns-in_err-place_of
returns-in_err-place_of c =
    let files = c.self.inside.list.items in
    rw (c.from_residual.ensures, ← c.self.view_is) (sym (file_at-none files c.args.path.now (c.in_err-place_of.ensures files c.self.invariant.1)))

pub returns : goal.returns
returns c =
    let files = c.self.inside.list.items in
    let lookup = rw c.deref.ensures.value at c.in_ok-file.ensures.lookup in
    rw (← c.self.view_is) (sym (file_at-some files c.args.path.now c.in_ok-place_of.field-0 c.in_ok-file.file.now (c.in_ok-place_of.ensures files c.self.invariant.1) lookup.3.0 lookup.1))
