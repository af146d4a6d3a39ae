mod TestedLists
