use Rattle.std.proofs.Common.{◌≡◌, ◌-◌, ap, ◌∙◌, arith, length, take, drop, length-drop}
use Rattle.std.proofs.lemmas.List.{take_all, length-take-le}
use Rattle.index_list.specs.Layout.{from_bytes}
use Rattle.index_list.proofs.Laws.{four_read}
use Rattle.fields.proofs.read_u32.Goals as goal

pub returns : goal.returns
returns c =
    let first = rw c.unwrap.ensures at c.first_chunk.ensures.cases in
    let rest = take_all (length c.args.bytes.now - c.args.at) (drop c.args.at c.args.bytes.now) (omega (arith, length-drop c.args.at c.args.bytes.now)) in
    let same = first.same ∙ ap (take 4) rest in
    let long : length c.unwrap.result.now ≡ 4 = ap length same ∙ length-take-le 4 (drop c.args.at c.args.bytes.now) (omega (arith, c.requires, length-drop c.args.at c.args.bytes.now)) in
    c.from_le_bytes.ensures ∙ four_read _ long ∙ ap from_bytes same
