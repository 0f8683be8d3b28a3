pub mod Stores
pub mod OldAddresses
pub mod OnlyARegisterElsewhere
pub mod ALateTable
pub mod AFullCollection
pub mod BetweenBunches
pub mod PairsAtTwoNodes
