use Rattle.scale_info_numberings.proofs.Places.{at_seam}
use Rattle.std.proofs.Common.{arith, ◌≡◌, ◌++◌, ◌∷◌, [], ◌∙◌, sym, ap, append_assoc, List, length}
use Rattle.std.proofs.Common.{Some}
use Rattle.std.proofs.Common.{slice_get, ◌+◌, subst, drop}
use Rattle.std.specs.Vec.Iter.{into_iter_items}
use Rattle.std.proofs.lemmas.List.{length_push}
use Rattle.std.proofs.lemmas.Result.{IfOk-at_ok}
use Rattle.scale_info_types.specs.Portable as portable
use Rattle.scale_info_identities.specs.TypeIds.{term_of}
use Rattle.scale_info_catalogue.specs.Catalogues.{described}
use Rattle.scale_info_registry.specs.Registrations.{AreDescribed}
use Rattle.scale_info_registry.proofs.Registered.{described_more, paired_at, past_at}
use Rattle.scale_info_registry.proofs.registry.describe.Goals as goal

pub loop-described-preserved : goal.loop-described-preserved
loop-described-preserved c =
    let types = c.loop-described.types.items in
    let first = length c.args.types.now.items in
    let ids = c.args.identities.now in
    let (ty, made, pushed) = c.in_ok-push_made.ensures.ok in
    let d = c.in-Some.described in
    let kept = c.loop-described.invariant in
    let (done, split, far) = kept.1 in
    let rest = into_iter_items c.next.new.self in
    let whole : c.args.found.items ≡ done ++ d ∷ rest =
    split ∙ ap (λ xs. done ++ xs) c.in-Some.ensures.steps.0 in
    let at : slice_get c.args.found.items (length done) ≡ Some d =
    ap (λ xs. slice_get xs (length done)) whole ∙ at_seam done rest d in
    let long : length c.push_made.new.list.items ≡ length types + 1 =
    ap (λ (xs : List portable.Description). length xs) pushed ∙ length_push types ty in
    let longer = length_push done d in (
      (kept.0.0 ++ ty ∷ [], pushed ∙ ap (λ xs. xs ++ ty ∷ []) kept.0.1 ∙ append_assoc c.args.types.now.items kept.0.0 (ty ∷ [])),
      (done ++ d ∷ [], whole ∙ sym (append_assoc done (d ∷ []) rest), omega (arith, long, longer, far)),
      (λ cat all.
          let pair = paired_at (λ id r. described cat (term_of id) ≡ Some r.now) (drop first ids) c.args.found.items (length done) d all at in
          let place : slice_get ids (length types) ≡ Some pair.0 =
          sym (past_at ids first (length done) (length types) far) ∙ pair.1 in
          subst (λ (xs : List portable.Description). AreDescribed cat ids first xs) (sym pushed)
          (described_more cat ids first types pair.0 d.now ty place pair.2 (IfOk-at_ok _ made c.with_ids-ty.ensures) (kept.2 cat all))),
    )
