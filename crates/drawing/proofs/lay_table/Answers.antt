-- `drawing::lay_table` meets its contract: the places are noted where the map says, and then the arcs between the
-- components are arranged there. Assumes nothing.
use mathlib.Core.Path.{◌≡◌, sym, ap, subst}
use Rattle.rules.specs.Calls.{arcs_of}
use Rattle.workmap.specs.declared.Map.{Map}
use Rattle.workmap.specs.declared.PlacesAt.{PlacesAt}
use Rattle.workmap.specs.declared.RowsAt.{RowsAt}
use Rattle.workmap.specs.Map.{places_at, table_at}
use Rattle.arranged.specs.Arranged.{Arranged}
use Rattle.spots.specs.Spots.{PlacesNotable, PlacesNoted}
use Rattle.condense.specs.ComponentArcs.{place_in, component_arcs, Condensable}
use Rattle.drawing.proofs.Tables.{places_asked, condense_asked, tabled}
use Rattle.drawing.proofs.lay_table.Goals.{After-note_places, Start}
use Rattle.drawing.proofs.lay_table.Goals as goal

-- the places of the components, and the rows, as the map has them
places_made : (s : Start) → s.args.m.places ≡ places_at s.args.m.zones
places_made s = ap (λ (m : Map). m.places) s.requires.m_is_map

rows_made : (s : Start) → s.args.m.table.rows ≡ (table_at s.args.m.zones).rows
rows_made s = ap (λ (m : Map). m.table.rows) s.requires.m_is_map

noted : (c : After-note_places) → let a = c.args in PlacesNoted a.work.now c.note_places.new.work
    (places_at a.m.zones) a.places
noted c =
    let places_made : c.args.m.places ≡ places_at c.args.m.zones = ap (λ (m : Map). m.places) c.requires.m_is_map in
    let a = c.args in
    subst
    (λ (P : PlacesAt). PlacesNoted a.work.now c.note_places.new.work P a.places)
    places_made
    c.note_places.ensures

pub returns : goal.returns
returns c =
    let a = c.args in
    let w₁ = c.note_places.new.work in
    let w₂ = c.condense.new.work in
    let es = arcs_of a.tails.now a.heads.now in
    let arranged_there =
    subst
    (λ (R : RowsAt). Arranged w₁ w₂ R (component_arcs (place_in w₁ (places_at a.m.zones)) es))
    (rows_made (goal.at.returns c).Start)
    (subst
    (λ (P : PlacesAt). Arranged w₁ w₂ a.m.table.rows (component_arcs (place_in w₁ P) es))
    (places_made (goal.at.returns c).Start)
    c.condense.ensures) in
    tabled a.work.now a.m.zones a.tails.now a.heads.now a.places c.requires.named
    c.note_places.new.work (noted (goal.at.returns c).After-note_places) c.condense.new.work arranged_there

pub note_places-requires : goal.note_places-requires
note_places-requires c =
    let a = c.args in
    subst
    (λ (P : PlacesAt). PlacesNotable a.work.now P a.places)
    (sym (places_made (goal.at.note_places-requires c).Start))
    (places_asked a.work.now a.m.zones a.tails.now a.heads.now a.places c.requires.named)

pub condense-requires : goal.condense-requires
condense-requires c =
    let a = c.args in
    let w₁ = c.note_places.new.work in
    subst
    (λ (R : RowsAt). Condensable w₁ a.m.places R a.tails.now a.heads.now)
    (sym (rows_made (goal.at.condense-requires c).Start))
    (subst
    (λ (P : PlacesAt). Condensable w₁ P (table_at a.m.zones).rows a.tails.now a.heads.now)
    (sym (places_made (goal.at.condense-requires c).Start))
    (condense_asked a.work.now a.m.zones a.tails.now a.heads.now a.places c.requires.named w₁ (noted
    (goal.at.condense-requires c).After-note_places)))
