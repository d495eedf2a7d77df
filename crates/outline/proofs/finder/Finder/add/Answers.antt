use Rattle.std.proofs.Common.{◌≡◌, ◌∙◌, IfSome, subst}
use Rattle.outline.specs.Symbols.{IsSymbolOf}
use Rattle.outline.proofs.Nested.{found_fewer, found_more}
use Rattle.outline.proofs.finder.Finder.add.Goals as goal

pub returns-in_ok-push : goal.returns-in_ok-push
returns-in_ok-push c =
    let settings = c.args.self.settings.now in
    let doc = c.args.self.doc.now in
    let before = found_fewer settings doc.unit doc.text c.args.found.now c.depth_at-depth.new.self c.requires.found c.depth_at-depth.ensures.same c.depth_at-depth.ensures.fewer in
    let symbol = subst (λ o. IfSome o (IsSymbolOf settings doc.unit doc.text)) c.in-Some.is c.in_ok-symbol.ensures.symbol in
    let depth = subst (λ o. IfSome o (λ s. s.depth ≡ c.depth_at-depth.result)) c.in-Some.is c.in_ok-symbol.ensures.depth in
    found_more settings doc.unit doc.text c.depth_at-depth.new.self c.push.new.self c.in-Some.symbol c.args.branch.places.to before symbol
    (depth ∙ c.depth_at-depth.ensures.depth) c.in_ok-push.ensures.symbols c.in_ok-push.ensures.around

pub returns-in_default : goal.returns-in_default
returns-in_default c =
    let settings = c.args.self.settings.now in
    let doc = c.args.self.doc.now in
    found_fewer settings doc.unit doc.text c.args.found.now c.depth_at-depth.new.self c.requires.found c.depth_at-depth.ensures.same c.depth_at-depth.ensures.fewer
