-- `writer::put_sheet` meets its contract: header, periodic rows, triggers and end, one behind the other, and there is room for each.
-- Assumes nothing.
use Rattle.tables.specs.Lent.{rules_of}
use Rattle.writer.proofs.Laws.Room.{few_bodies, room_periodics, room_triggers, room_end, with_end_lem}
use borrow.Author.Rules.{rules as search_rules}
use Rattle.writer.proofs.put_sheet.Goals as goal

pub put_rows-b-requires-clause-room : goal.put_rows-b-requires-clause-room
put_rows-b-requires-clause-room c =
    let a = c.args in
    let R = rules_of a.given.now in
    room_periodics R c.requires _ (search search_rules) _ _ _ c.header_frame-first.ensures c.put-a.ensures

pub put_rows-c-requires-clause-room : goal.put_rows-c-requires-clause-room
put_rows-c-requires-clause-room c =
    let a = c.args in
    let R = rules_of a.given.now in
    room_triggers R c.requires _ (search search_rules) _ _ _ c.header_frame-first.ensures c.put-a.ensures _ _ c.put_rows-b.ensures.puts

pub put_rows-c-requires-clause-good : goal.put_rows-c-requires-clause-good
put_rows-c-requires-clause-good c =
    let a = c.args in
    few_bodies (rules_of a.given.now) c.requires

pub put-requires : goal.put-requires
put-requires c =
    let a = c.args in
    let R = rules_of a.given.now in
    let room = room_end R c.requires _ (search search_rules) _ _ _ c.header_frame-first.ensures c.put-a.ensures _ _ c.put_rows-b.ensures.puts _ _ c.put_rows-c.ensures.puts in
    search search_rules

pub returns : goal.returns
returns c =
    let a = c.args in
    let R = rules_of a.given.now in
    record {
      puts = with_end_lem
          R c.requires _ (search search_rules) _ _ _ c.header_frame-first.ensures c.put-a.ensures _ _ c.put_rows-b.ensures.puts _ _ c.put_rows-c.ensures.puts _ _ _ c.end_frame-last.ensures c.put.ensures;
      periodic_bytes = c.put_rows-b.ensures.bytes;
      trigger_bytes = c.put_rows-c.ensures.bytes;
    }
