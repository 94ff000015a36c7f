use Rattle.std.proofs.Common.{◌≡◌, cond, ap, is_some, sym, true, false, Some, ◌||◌, ◌∙◌}
use Rattle.std.specs.HashMap.{get_by_text}
use Rattle.std.specs.Str.{bytes_eq}
use Rattle.std.specs.String.{string_bytes}
use Rattle.std.proofs.lemmas.Bool.{not_from_true, not_from_false}
use Rattle.std.proofs.lemmas.Map.Text.{hash_map_updates_text}
use Rattle.sv_files.specs.Below.{lies_below}
use Rattle.sv_files.specs.Files.{is_file, is_folder}
use Rattle.sv_files.specs.declared.files.File.{File}
use Rattle.sv_files.proofs.Folders.{folders_closed}
use Rattle.sv_text.proofs.FirstPlace.{position_some}
use Rattle.sv_files.proofs.Places.{folder-more, place-more}
use Rattle.sv_files.proofs.index.Index.enter.Goals as goal

pub returns-then-contains_key-clause-new : goal.returns-then-contains_key-clause-new
returns-then-contains_key-clause-new c = λ files is.
    let known : is_file files c.as_str-path.result.now ≡ true = sym (position_some (λ (f : File). bytes_eq f.path c.as_str-path.result.now) files) ∙ (sym (ap is_some (is.places c.as_str-path.result.now)) ∙ (sym c.contains_key.ensures ∙ c.if-contains_key.true)) in
    sym (not_from_true _ (ap (is_file files) (sym c.as_str-path.ensures) ∙ known))

pub returns-clause-new : goal.returns-clause-new
returns-clause-new c = λ files is.
    let unknown : is_file files c.as_str-path.result.now ≡ false = sym (position_some (λ (f : File). bytes_eq f.path c.as_str-path.result.now) files) ∙ (sym (ap is_some (is.places c.as_str-path.result.now)) ∙ (sym c.contains_key.ensures ∙ c.if-contains_key.false)) in
    sym (not_from_false _ (ap (is_file files) (sym c.as_str-path.ensures) ∙ unknown))

pub returns-clause-entered : goal.returns-clause-entered
returns-clause-entered c = λ files is last.
    let file = c.args.file.now in
    let unknown : is_file files c.as_str-path.result.now ≡ false = sym (position_some (λ (f : File). bytes_eq f.path c.as_str-path.result.now) files) ∙ (sym (ap is_some (is.places c.as_str-path.result.now)) ∙ (sym c.contains_key.ensures ∙ c.if-contains_key.false)) in
    let new : is_file files file.path ≡ false = ap (is_file files) (sym c.as_str-path.ensures) ∙ unknown in
    let its_path = c.in_ok-from_str.ensures.ok ∙ c.as_str-path.ensures in
    record {
      places = λ path.
          let updated = hash_map_updates_text (string_bytes c.in_ok-from_str.field-0) c.args.self.now.places c.insert.new.self _ c.in_ok-insert.ensures.updates path in
          place-more files file c.args.place path (get_by_text c.args.self.now.places path) (get_by_text c.insert.new.self path) last new (is.places path) (updated ∙ ap (λ bs. cond (bytes_eq bs path) (Some c.args.place) (get_by_text c.args.self.now.places path)) its_path);
      folders = λ folder.
          folder-more files file folder _ (c.in_ok-enter_folders.ensures (is_folder files) (folders_closed files) is.folders folder ∙ ap (λ path. is_folder files folder || lies_below folder path) c.as_str-path.ensures);
    }
