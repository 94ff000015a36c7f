use Rattle.std.proofs.Common.{◌++◌, []}
use Rattle.sv_saved_sessions.specs.Content.{auth_bytes, collection_bytes, transport_bytes}
use Rattle.sv_saved_sessions.specs.Encoding.{list_bytes, number_bytes}
use Rattle.sv_saved_sessions.proofs.Appending.{and_last, and_more, of_same}
use Rattle.sv_saved_sessions.proofs.encoding.ConstraintWritten.append.Goals as goal

pub returns-clause-written : goal.returns-clause-written
returns-clause-written c =
    let s = c.args.self.now in
    let out0 = c.args.out.now.items in
    let out1 = c.append_number.new.out.items in
    let out2 = c.append_list.new.out.items in
    let out3 = c.append_auth.new.out.items in
    let out4 = c.append_transport.new.out.items in
    let collections = list_bytes collection_bytes s.collections in
    let auth = auth_bytes s.auth in
    let transport = transport_bytes s.transport in
    let after3 = transport ++ [] in
    let after2 = auth ++ after3 in
    let after1 = collections ++ after2 in
    and_more out0 out1 out4 (number_bytes s.number) after1 c.in_ok-append_number.ensures.written
    (and_more out1 out2 out4 collections after2 (of_same (list_bytes collection_bytes) c.as_slice.result.now s.collections out1 out2 c.as_slice.ensures c.in_ok-append_list.ensures.written)
    (and_more out2 out3 out4 auth after3 c.in_ok-append_auth.ensures.written (and_last out3 out4 transport c.in_ok-append_transport.ensures)))
