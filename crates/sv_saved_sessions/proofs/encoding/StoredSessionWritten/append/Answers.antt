use Rattle.std.proofs.Common.{◌≡◌, ◌++◌, [], subst, List, ℕ}
use Rattle.sv_saved_sessions.specs.Content.{attribute_bytes, session_bytes}
use Rattle.sv_session.specs.Store.{Session}
use Rattle.sv_session.specs.declared.slot.Attribute.{Attribute}
use Rattle.sv_saved_sessions.specs.Saved.{AreAll, IsAttribute, IsSession, IsText}
use Rattle.sv_saved_sessions.specs.Encoding.{list_bytes, number_bytes, optional_bytes, text_bytes}
use Rattle.sv_saved_sessions.proofs.Appending.{and_last, and_more, of_same}
use Rattle.sv_saved_sessions.proofs.encoding.StoredSessionWritten.append.Goals as goal

pub returns-clause-written : goal.returns-clause-written
returns-clause-written c =
    let s = c.self.inside in
    let out0 = c.args.out.now.items in
    let out1 = c.append_number.new.out.items in
    let out2 = c.append_text.new.out.items in
    let out3 = c.append_number-2.new.out.items in
    let out4 = c.append_caller.new.out.items in
    let out5 = c.append_saved.new.out.items in
    let out6 = c.append_list.new.out.items in
    let attributes = list_bytes attribute_bytes s.attributes.items in
    let saved = optional_bytes text_bytes s.saved in
    let caller = optional_bytes number_bytes s.caller in
    let accessed = number_bytes s.last_access in
    let id = text_bytes s.id in
    let after5 = attributes ++ [] in
    let after4 = saved ++ after5 in
    let after3 = caller ++ after4 in
    let after2 = accessed ++ after3 in
    let after1 = id ++ after2 in
    subst (λ (session : Session). out6 ≡ out0 ++ session_bytes session) c.self.view_is (and_more out0 out1 out6 (number_bytes s.number) after1 c.in_ok-append_number.ensures.written
    (and_more out1 out2 out6 id after2 (of_same text_bytes c.as_str.result.now s.id out1 out2 c.as_str.ensures c.in_ok-append_text.ensures.written)
    (and_more out2 out3 out6 accessed after3 c.in_ok-append_number-2.ensures.written
    (and_more out3 out4 out6 caller after4 c.in_ok-append_caller.ensures.written
    (and_more out4 out5 out6 saved after5 c.in_ok-append_saved.ensures.written
    (and_last out5 out6 attributes (of_same (list_bytes attribute_bytes) c.as_slice.result.now s.attributes.items out5 out6 c.as_slice.ensures.value c.in_ok-append_list.ensures.written)))))))

pub returns-clause-fits : goal.returns-clause-fits
returns-clause-fits c =
    subst (λ (session : Session). IsSession session) c.self.view_is (
      c.append_number.ensures.fits,
      subst (λ (text : List ℕ). IsText text) c.as_str.ensures c.in_ok-append_text.ensures.fits,
      c.append_number-2.ensures.fits,
      c.append_caller.ensures.fits,
      c.in_ok-append_saved.ensures.fits,
      subst (λ (attributes : List Attribute). AreAll IsAttribute attributes) c.as_slice.ensures.value c.in_ok-append_list.ensures.fits,
    )
