use Rattle.std.proofs.Common.{◌∙◌}
use Rattle.words.specs.Cursors.{text}
use Rattle.listing.proofs.Past.{item_past, shorter}
use Rattle.listing.proofs.Saying.{said_first, said_more}
use Rattle.listing.proofs.read.read_items.Goals as goal

pub loop-cursor-init : goal.loop-cursor-init
loop-cursor-init c = record {
  same = c.in_ok-plan.ensures.same ∙ c.new-cursor.ensures.whole;
  said = said_first c.args.list.now (text c.new-cursor.result) c.new-items.result.items c.push.new.self.items c.in_ok-plan.plan c.new-cursor.result.at c.plan_line.new.cursor.at c.new-cursor.ensures.whole c.new-cursor.ensures.start c.new-items.ensures.items c.in_ok-push.ensures.items c.in_ok-plan.ensures.told;
}

pub loop-cursor-smaller : goal.loop-cursor-smaller
loop-cursor-smaller c =
    let past = item_past _ c.loop-cursor.plan (text c.loop-cursor.cursor) c.loop-cursor.cursor.at c.read_line.new.cursor.at c.in_ok-item.item c.in_ok-item.ensures.told in
    shorter (text c.loop-cursor.cursor) (text c.read_line.new.cursor) c.loop-cursor.cursor.at c.read_line.new.cursor.at c.in_ok-item.ensures.same c.loop-cursor-test.ensures past

pub loop-cursor-preserved : goal.loop-cursor-preserved
loop-cursor-preserved c = record {
  same = c.in_ok-item.ensures.same ∙ c.loop-cursor.invariant.same;
  said = said_more c.args.list.now (text c.loop-cursor.cursor) c.loop-cursor.items.items c.push-in-loop-cursor.new.self.items c.loop-cursor.plan c.plan-plan.result c.loop-cursor.cursor.at c.read_line.new.cursor.at c.in_ok-item.item
      c.loop-cursor.invariant.same c.loop-cursor.invariant.said c.loop-cursor-test.ensures c.in_ok-push-2.ensures.items c.plan-plan.ensures c.in_ok-item.ensures.told;
}
