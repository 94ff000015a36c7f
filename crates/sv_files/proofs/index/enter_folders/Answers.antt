use Rattle.std.proofs.Common.{ap, cond, sym, true, ◌∙◌}
use Rattle.std.specs.HashSet.{contains_text}
use Rattle.std.specs.Option.{option_copied}
use Rattle.std.specs.Str.{bytes_eq}
use Rattle.std.specs.String.{string_bytes}
use Rattle.std.proofs.lemmas.Map.Text.{hash_set_updates_text}
use Rattle.sv_files.proofs.Folders.{entered-all, entered-known, entered-more, entered-none, within-up}
use Rattle.sv_files.proofs.index.enter_folders.Goals as goal

pub loop-rest-init : goal.loop-rest-init
loop-rest-init c =
    (λ known closed was folder. was folder ∙ entered-none known c.args.path.now folder _ (c.folder_of-rest.ensures.folders folder), λ outer above. c.folder_of-rest.ensures.folders outer ∙ above)

pub returns-then-contains : goal.returns-then-contains
returns-then-contains c = λ known closed was folder.
    let first = c.in-Some.folder.now in
    let before = rw c.in-Some.is at (c.loop-rest.invariant.0 known closed was) in
    before folder ∙ entered-known known c.args.path.now first folder closed (sym (before first) ∙ (sym c.contains.ensures ∙ c.if-contains.true))

pub loop-rest-preserved : goal.loop-rest-preserved
loop-rest-preserved c =
    let first = c.in-Some.folder.now in
    let rest = option_copied c.folder_of-rest-in-Some.result in
    let within = rw c.in-Some.is at c.loop-rest.invariant.1 in (
      λ known closed was folder.
          let before = rw c.in-Some.is at (c.loop-rest.invariant.0 known closed was) in
          let updated = hash_set_updates_text (string_bytes c.in_ok-from_str.field-0) c.loop-rest.folders c.insert.new.self _ c.in_ok-insert.ensures.updates folder in
          updated
          ∙ (ap (λ bs. cond (bytes_eq bs folder) true (contains_text c.loop-rest.folders folder)) c.in_ok-from_str.ensures.ok
          ∙ (ap (cond (bytes_eq first folder) true) (before folder) ∙ entered-more known c.args.path.now first folder rest (c.folder_of-rest-in-Some.ensures.folders folder) (within folder))),
      λ outer above. within-up c.args.path.now first outer rest (c.folder_of-rest-in-Some.ensures.folders outer) (within outer) above,
    )

pub returns : goal.returns
returns c = λ known closed was folder. c.loop-rest.invariant.0 known closed was folder ∙ entered-all known c.args.path.now folder (option_copied c.loop-rest.rest) (ap option_copied c.in_default.is)
