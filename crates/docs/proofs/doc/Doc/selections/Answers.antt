use Rattle.docs.proofs.Std.{◌≡◌, ◌+◌, ◌++◌, List, [], ◌∷◌, map, get_or, take, subst, sym, ap, ◌∙◌, take_more, map-append, take_all}
use Rattle.docs.proofs.Common.{Position, Range, trees_of_roots, AreSelections}
use Rattle.docs.proofs.StoredReading.{has_the_nodes, reading_of, selections_more, selections_read}
use Rattle.docs.proofs.doc.Doc.selections.Goals as goal

pub loop-position-preserved : goal.loop-position-preserved
loop-position-preserved c = λ language current.
    let d = c.args.self.now in
    let positions = c.args.positions.now in
    let i = c.loop-position.position-index in
    let reading = reading_of d (trees_of_roots d.store d.parse.stack) in
    let p = get_or positions i (record { line = 0; character = 0 }) in
    let before : List (List Range) = map (λ s. s.items) c.loop-position.selections.items in
    let one = c.in_ok-selection.field-0.items in
    let more = selections_more d.unit language d.text reading (take i positions) p before one (c.loop-position.invariant language current) (c.in_ok-selection.ensures language current) in
    let asked : take (i + 1) positions ≡ take i positions ++ p ∷ [] = take_more positions i (record { line = 0; character = 0 }) c.loop-position-test.true in
    let found : map (λ s. s.items) c.push.new.self.items ≡ before ++ one ∷ [] = ap (map (λ s. s.items)) c.in_ok-push.ensures.items
    ∙ map-append (λ s. s.items) c.loop-position.selections.items (c.in_ok-selection.field-0 ∷ []) in
    subst (λ (ps : List Position). AreSelections d.unit language.file d.text reading ps (map (λ s. s.items) c.push.new.self.items)) (sym asked)
    (subst (λ (ss : List (List Range)). AreSelections d.unit language.file d.text reading (take i positions ++ p ∷ []) ss) (sym found) more)

pub returns : goal.returns
returns c = λ language current.
    let d = c.args.self.now in
    let positions = c.args.positions.now in
    let has = has_the_nodes c.stack_has_the_nodes_of_the_document.ensures language d current in
    let reading = reading_of d (trees_of_roots d.store d.parse.stack) in
    let found : List (List Range) = map (λ s. s.items) c.loop-position.selections.items in
    let all : AreSelections d.unit language.file d.text reading positions found = subst (λ (ps : List Position). AreSelections d.unit language.file d.text reading ps found)
    (take_all c.loop-position.position-index positions c.loop-position-test.false) (c.loop-position.invariant language current) in
    selections_read d.unit language d positions found current has all
