-- `drawing::draw` meets its contract: the rings' arcs are put, the network of the components is laid out, and the arcs
-- between components are put behind the rings'. Assumes nothing.
use borrow.Author.Rules.{rules}
use mathlib.Core.Path.{◌≡◌, refl, sym, ap, ◌∙◌}
use Rattle.workmap.specs.declared.Map.{Map}
use Rattle.workmap.specs.Map.{rings_at, table_at}
use Rattle.arcsink.specs.declared.ArcSink.{ArcSink}
use Rattle.drawing.proofs.Parts.{rings_asked, rings_fit, named_then, cross_fit, drawn, drawn_lists}
use Rattle.drawing.proofs.draw.Goals.{Start}
use Rattle.drawing.proofs.draw.Goals as goal

-- the rings, and the network of the components, as the map has them
rings_made : (s : Start) → s.args.m.rings ≡ rings_at s.args.m.zones
rings_made s = ap (λ (m : Map). m.rings) s.requires.m_is_map

table_made : (s : Start) → s.args.m.table ≡ table_at s.args.m.zones
table_made s = ap (λ (m : Map). m.table) s.requires.m_is_map

-- the two lists that are lent
abbrev lent : Start → ArcSink
lent s = record { tails = s.args.from; heads = s.args.to; len = 0 }

pub returns : goal.returns
returns c =
    let a = c.args in
    let P = rw (rings_made (goal.at.returns c).Start) at c.put_rings.ensures in
    let Q = rw (table_made (goal.at.returns c).Start) at c.cross.ensures in
    let D = drawn a.work.now a.m.zones a.tails.now a.heads.now a.places c.requires.named _ refl
    c.requires.lists_have_room.0 c.requires.lists_have_room.1 P c.lay_table.ensures Q in
    let n = sym (c.cross.ensures.put.same_tails ∙ c.put_rings.ensures.arcs.same_tails) in
    let m = sym (c.cross.ensures.put.same_heads ∙ c.put_rings.ensures.arcs.same_heads) in
    drawn_lists D (search rules) (search rules)

pub put_rings-requires : goal.put_rings-requires
put_rings-requires c =
    let a = c.args in
    let s = (goal.at.put_rings-requires c).Start in
    record {
      rings_lent = rw (rings_made s)
          (rings_asked a.work.now a.m.zones a.tails.now a.heads.now a.places c.requires.named
          (lent s) refl c.requires.lists_have_room.0 c.requires.lists_have_room.1);
      arcs_fit = rw (rings_made s)
          (rings_fit a.work.now a.m.zones a.tails.now a.heads.now a.places c.requires.named
          _ refl c.requires.lists_have_room.0 c.requires.lists_have_room.1);
    }

pub lay_table-requires-clause-named : goal.lay_table-requires-clause-named
lay_table-requires-clause-named c =
    let a = c.args in
    let P = rw (rings_made (goal.at.lay_table-requires-clause-named c).Start) at c.put_rings.ensures in
    named_then a.work.now a.m.zones a.tails.now a.heads.now a.places c.requires.named _ refl
    c.requires.lists_have_room.0 c.requires.lists_have_room.1 P

pub cross-requires : goal.cross-requires
cross-requires c =
    let a = c.args in
    let s = (goal.at.cross-requires c).Start in
    let P = rw (rings_made s) at c.put_rings.ensures in
    record {
      block_laid = rw (table_made s) c.lay_table.ensures.condensed.laid;
      arcs_fit = rw (table_made s)
          (cross_fit a.work.now a.m.zones a.tails.now a.heads.now a.places c.requires.named _ refl
          c.requires.lists_have_room.0 c.requires.lists_have_room.1 P c.lay_table.ensures);
    }
