-- What a settings file is refused for.
use Rattle.settings_files.specs.declared.faults.SettingsFault.{SettingsFault}
use Rattle.settings_files.specs.declared.faults.SettingsFault.TheVariants.{Toml}

-- the text is no TOML
abbrev pub IsTomlFault : SettingsFault → Type 0
IsTomlFault (Toml message line column) = Unit {0}
IsTomlFault f = ⊥
