-- Rows and paths that are passed on.
use Rattle.std.proofs.Common.{◌≡◌, ℕ, List, map, subst, sym}
use Rattle.scale_info_types.specs.Portable.{Text}
use Rattle.scale_info_types.specs.declared.ty.PortableType.{PortableType}
use Rattle.scale_info_table_diff.specs.TypesByPath.{AreIdsByPath}

-- rows and paths that are passed on
pub given_rows :
    {V : Type 0} (row : V → List ℕ) (types : List PortableType) (paths given : List Text) (vs ws : List V)
    → given ≡ paths → ws ≡ vs → AreIdsByPath types paths (map row vs) → AreIdsByPath types given (map row ws)
given_rows row types paths given vs ws is are z =
    subst (λ ps. AreIdsByPath types ps (map row ws)) (sym is)
    (subst (λ us. AreIdsByPath types paths (map row us)) (sym are) z)
