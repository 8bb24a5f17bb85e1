-- Metadata that ends too early.
use Rattle.std.proofs.Common.{◌≡◌, ℕ, ◌≤◌, List, [], ◌∷◌, subst, inl, ◌⊎◌}
use Rattle.scale_info_bytes.specs.Encodings.{HasNoPrefix}
use Rattle.scale_info_grammar.specs.Ty.{EncodesTypes}
use Rattle.scale_info_table_metadata.specs.Metadata.{IsMetadata}
use Rattle.scale_info_table_metadata.specs.TablesFound.{IsCutShort, IsNothing, no_version, no_table}

-- after the word nothing comes
pub ends_at_word :
    {after input : List ℕ} → after ≡ [] → IsMetadata after input
    → IsCutShort input ⊎ IsNothing input
ends_at_word {after} {input} e m = inl (no_version (subst (λ t. IsMetadata t input) e m))

-- after the version no table comes
pub ends_at_version :
    {version : ℕ} {after rest input : List ℕ} → after ≡ version ∷ rest → IsMetadata after input
    → 14 ≤ version → version ≤ 16 → HasNoPrefix EncodesTypes rest
    → IsCutShort input ⊎ IsNothing input
ends_at_version {version} {after} {rest} {input} e m low high none =
    inl (no_table (subst (λ t. IsMetadata t input) e m) (low, high) none)
