use Rattle.std.proofs.Common.{ap, is_some, ◌∙◌}
use Rattle.std.specs.Str.{bytes_eq}
use Rattle.sv_files.specs.Files.{is_file}
use Rattle.sv_files.specs.declared.files.File.{File}
use Rattle.sv_text.proofs.FirstPlace.{position_some}
use Rattle.sv_files.proofs.files.Files.is_file.Goals as goal

pub returns : goal.returns
returns c =
    let files = c.self.inside.list.items in
    let path = c.args.path.now in
    c.is_some.ensures
    ∙ (ap is_some (c.place_of.ensures files c.self.invariant.1)
    ∙ (position_some (λ (file : File). bytes_eq file.path path) files ∙ ap (λ listed. is_file listed path) c.self.view_is))
