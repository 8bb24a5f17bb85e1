use Rattle.std.proofs.Common.{rules, ◌≡◌, ◌++◌, ◌∷◌, ◌+◌, [], ℕ, Some, slice_get, take, map, ap}
use Rattle.std.proofs.Common.{sym, ◌∙◌, subst, arith, length}
use Rattle.std.proofs.lemmas.Grind.{common_steps}
use Rattle.std.proofs.lemmas.List.{length_push, map-append}
use Rattle.scale_info_identities.specs.TypeIds.{term_of}
use Rattle.scale_info_numberings.specs.Tables.{ArePlaces}
use Rattle.scale_info_types.specs.MetaDescriptions.{type_term}
use Rattle.scale_info_types.specs.Portable.{Id}
use Rattle.scale_info_catalogue.proofs.Terms.{known_by_term}
use Rattle.scale_info_catalogue.specs.Discoveries.{nodes_of, roots_of}
use Rattle.scale_info_registry.proofs.Composed.{zip_push}
use Rattle.scale_info_registry.proofs.registry.known_symbols.Goals as goal

pub loop-ty-preserved : goal.loop-ty-preserved
loop-ty-preserved c =
    let L = nodes_of c.args.identities.now in
    let i = c.loop-ty.ty-index in
    let ty = c.ty-item.result in
    let symbol = c.from.result in
    let is_id : Id → ℕ = λ s. s.id in
    let front : take (i + 1) c.args.types.now ≡ take i c.args.types.now ++ ty ∷ [] = grind (arith, common_steps, rules) in
    let pushed : c.push.new.self.items ≡ c.loop-ty.symbols.items ++ symbol ∷ [] = search rules in
    let found = (known_by_term c.args.identities.now c.type_id.result.now c.in-Some.number).0 c.in-Some.ensures.found in
    let at : slice_get L symbol.id ≡ Some (type_term ty) =
    subst (λ n. slice_get L n ≡ Some (type_term ty)) (sym c.from.ensures)
    (subst (λ id. slice_get L c.in-Some.number ≡ Some (term_of id)) c.type_id.ensures found) in
    let roots : roots_of (take (i + 1) c.args.types.now) ≡ roots_of (take i c.args.types.now) ++ type_term ty ∷ [] =
    ap roots_of front ∙ map-append type_term (take i c.args.types.now) (ty ∷ []) in
    let ids : map is_id c.push.new.self.items ≡ map is_id c.loop-ty.symbols.items ++ symbol.id ∷ [] =
    ap (map is_id) pushed ∙ map-append is_id c.loop-ty.symbols.items (symbol ∷ []) in (
      ap length pushed ∙ length_push c.loop-ty.symbols.items symbol ∙ ap (λ n. n + 1) c.loop-ty.invariant.0,
      subst (λ rs. ArePlaces L rs (map is_id c.push.new.self.items)) (sym roots)
          (subst (λ ps. ArePlaces L (roots_of (take i c.args.types.now) ++ type_term ty ∷ []) ps) (sym ids)
          (zip_push (λ n p. slice_get L p ≡ Some n) (roots_of (take i c.args.types.now)) (map is_id c.loop-ty.symbols.items) (type_term ty) symbol.id c.loop-ty.invariant.1 at)),
    )
